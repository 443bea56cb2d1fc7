use Rattle.word_owners.proofs.BufferWrites.{only_data_moves_write}
use Rattle.word_owners.proofs.Buffers.{data_stay, buffers_apart}
use Rattle.word_owners.proofs.chip_laws.data_stay_in_buffers.Goals as goal

pub returns : goal.returns
returns c = record { moves = data_stay; only = only_data_moves_write; apart = buffers_apart }
