use Rattle.std.proofs.Common.{◌≡◌, ◌∙◌, sym}
use Rattle.scripts_asm.specs.Seen.{seen_line, seen_body}
use Rattle.scripts_asm.specs.SeenNames.{giving_in}
use Rattle.scripts_asm.proofs.Fields.{without_fault, body_fits}
use Rattle.scripts_asm.proofs.judging.judge.Goals as goal

pub push_line-requires : goal.push_line-requires
push_line-requires c =
    let (form, wide) = without_fault (giving_in c.args.names.now) c.loop-lines.place c.loop-lines.count (seen_line c.line-item.result) c.as_slice-numbers.result.now (sym c.fault_of.ensures.fault ∙ c.in_default-fault_of.is) in
    record {
      fits = rw (c.as_slice-numbers.ensures.value, c.in_ok-known.ensures) (body_fits (giving_in c.args.names.now) (seen_body c.line-item.result.body));
      form = form;
      wide = wide;
    }
