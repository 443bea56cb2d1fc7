use Rattle.std.proofs.Common.{refl}
use Rattle.unit_law.specs.Request.{plain}
use Rattle.driver_desk.proofs.WholeDescriptors.{whole_few, sound}
use Rattle.driver_desk.proofs.BuiltTicket.{builds, not_refused, given_back}
use Rattle.driver_desk.proofs.desk.Desk.build.Goals as goal

pub returns-in_default-clause-built : goal.returns-in_default-clause-built
returns-in_default-clause-built c =
    let r = plain c.args.request.now in (
      given_back c.args.self.now c.accept.new.self c.enter.new.self c.give_back.new.self r c.in-Ok.chunks c.in-Ok.ensures c.in_default.ensures c.give_back.ensures,
      refl,
      not_refused c.args.self.now c.accept.new.self r c.in-Ok.chunks c.in-Ok.ensures,
    )

pub write-requires-clause-cdb : goal.write-requires-clause-cdb
write-requires-clause-cdb c = whole_few c.args.request.now.cdb (sound c.args.self.now.units (plain c.args.request.now) c.in-Ok.ensures.sound).whole

pub returns-clause-built : goal.returns-clause-built
returns-clause-built c =
    builds c.args.self.now c.accept.new.self c.enter.new.self c.args.words.now c.write.new.words c.args.line (plain c.args.request.now) c.in-Ok.chunks c.in-Ok-enter.number
    c.in-Ok.ensures c.in-Ok-enter.ensures.0 c.in-Ok-enter.ensures.1 c.write.ensures.memory
