use Rattle.std.proofs.Common.{refl, sym, subst}
use Rattle.target_law.specs.Devices.{DeviceState}
use Rattle.one_target.specs.Bus.{Settles}
use Rattle.one_target.specs.Holding.{IsHeldDevice}
use Rattle.target_law.specs.Calls.{target_acted}
use Rattle.one_target.proofs.DeviceCalls.{acted-held, acting, act-rooms}
use Rattle.one_target.proofs.turn.act.Goals as goal

pub settle-requires : goal.settle-requires
settle-requires c = subst IsHeldDevice (sym c.act.ensures) (acted-held c.args.device.now c.choose-m.result c.requires.held)

pub returns-clause-acts : goal.returns-clause-acts
returns-clause-acts c =
    acting c.args.device.now.target.link c.args.device.now c.args.word c.choose-m.result c.settle.new.device.target refl c.requires.choosing c.requires.held c.choose-m.ensures.named
    (subst (λ (x : DeviceState). Settles x.target c.settle.new.device.target) c.act.ensures c.settle.ensures.settles)

pub returns-clause-rooms : goal.returns-clause-rooms
returns-clause-rooms c = act-rooms c.args.device.now c.act.new.self c.settle.new.device (target_acted c.args.device.now.target c.choose-m.result) c.act.ensures c.settle.ensures.rooms
