use Rattle.std.proofs.Common.{◌≡◌, ◌≤◌, length, refl, arith}
use Rattle.std.proofs.lemmas.Grind.{common_steps}
use Rattle.std.specs.List.{All}
use Rattle.serial_run.proofs.commands.command_by.Goals as goal

pub returns-clause-command : goal.returns-clause-command
returns-clause-command c = rw c.in_ok-request.ensures.request refl

pub returns-clause-in_range : goal.returns-clause-in_range
returns-clause-in_range c =
    let one : length c.in_ok-request.request.segments ≡ 1 = rw c.in_ok-request.ensures.segments refl in
    let small : All (λ n. n ≤ 131072) c.in_ok-request.request.segments = rw c.in_ok-request.ensures.segments (grind (arith, common_steps)) in
    record {
      cdb = rw c.in_ok-request.ensures.cdb (omega arith);
      segments = rw one (omega arith);
      each_segment = small;
    }
