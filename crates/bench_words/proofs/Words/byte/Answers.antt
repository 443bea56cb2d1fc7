use Rattle.std.proofs.Common.{arith, ◌≡◌, ◌<◌, ◌*◌, ◌/◌, ◌∙◌, ap, sym, length, get_or}
use Rattle.std.proofs.lemmas.List.{get_or_read}
use Rattle.bench_words.proofs.Cells.{length-bytes_of, get_or-bytes_of}
use Rattle.bench_words.proofs.Words.byte.Goals as goal

pub index-requires : goal.index-requires
index-requires c =
    let size : length c.args.self.now ≡ 4 * length c.self.inside.cells.items = ap length (sym c.self.view_is) ∙ length-bytes_of c.self.inside.cells.items in
    omega (arith, c.self.inside.cells.ok.0)

pub returns : goal.returns
returns c =
    let size : length c.args.self.now ≡ 4 * length c.self.inside.cells.items = ap length (sym c.self.view_is) ∙ length-bytes_of c.self.inside.cells.items in
    let there : c.args.address / 4 < length c.self.inside.cells.items = omega (arith, c.self.inside.cells.ok.0) in
    let cell : c.index.result.now ≡ get_or c.self.inside.cells.items (c.args.address / 4) 0 = get_or_read c.self.inside.cells.items (c.args.address / 4) c.index.result.now there c.index.ensures 0 in
    rw (c.to_le_bytes.ensures, ← c.self.view_is, cell) (sym (get_or-bytes_of c.self.inside.cells.items c.args.address))
