use Rattle.std.proofs.Common.{◌∙◌, length, arith}
use Rattle.std.proofs.lemmas.Grind.{common_steps}
use Rattle.sym_top.proofs.Buffers.{buffer-is}
use Rattle.sym_top.proofs.one.buffer_of.Goals as goal

pub returns : goal.returns
returns c =
    c.of.ensures
    ∙ buffer-is c.args.words.now c.copy_out.new.into _ (length c.as_mut_slice.result.now) c.in_ok-bytes.bytes.len c.copy_out.ensures (c.as_mut_slice.ensures.len ∙ c.in_ok-bytes.ensures.len) (omega arith) c.in_ok-bytes.ensures.len

pub returns-in_err-bytes : goal.returns-in_err-bytes
returns-in_err-bytes c = grind (arith, common_steps)

pub copy_out-requires : goal.copy_out-requires
copy_out-requires c = omega (arith, c.as_mut_slice.ensures.len, c.in_ok-bytes.ensures.len)
