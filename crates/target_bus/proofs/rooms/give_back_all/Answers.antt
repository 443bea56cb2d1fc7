use Rattle.std.proofs.Common.{◌≡◌, ◌∙◌, ◌+◌, ◌-◌, ℕ, ap, arith}
use Rattle.bus_law.specs.Rooms.{with_room_of}
use Rattle.target_bus.proofs.LogRooms.{below, below-none, below-eight, next-made}
use Rattle.target_bus.proofs.rooms.give_back_all.Goals as goal

pub loop-made-init : goal.loop-made-init
loop-made-init c = λ old are made. made ∙ below-eight with_room_of old

pub give_back_one-requires : goal.give_back_one-requires
give_back_one-requires c =
    let old = c.requires.0 in (
      below with_room_of (7 - c.loop-made.made) old,
      next-made old c.loop-made.device c.args.rooms.now (7 - c.loop-made.made) (8 - c.loop-made.made) c.requires.1 (omega arith) (omega arith) (c.loop-made.invariant old c.requires.1 c.requires.2),
    )

pub loop-made-preserved : goal.loop-made-preserved
loop-made-preserved c = λ old are made.
    let n = 7 - c.loop-made.made in
    c.give_back_one.ensures (below with_room_of n old) (next-made old c.loop-made.device c.args.rooms.now n (8 - c.loop-made.made) are (omega arith) (omega arith) (c.loop-made.invariant old are made))
    ∙ ap (λ (k : ℕ). below with_room_of k old) (let e : n ≡ 8 - (c.loop-made.made + 1) = omega arith in e)

pub returns : goal.returns
returns c = λ old are made.
    c.loop-made.invariant old are made ∙ ap (λ (k : ℕ). below with_room_of k old) (let e : 8 - c.loop-made.made ≡ 0 = omega arith in e) ∙ below-none with_room_of old
