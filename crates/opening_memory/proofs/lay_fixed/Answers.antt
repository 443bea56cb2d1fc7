use Rattle.std.proofs.Common.{refl, inl, lit≤, lit<}
use Rattle.host_map.specs.Places.{IsBlockPlace}
use Rattle.opening_memory.specs.Tables.{written}
use Rattle.opening_memory.proofs.lay_fixed.Goals as goal

idle : IsBlockPlace 0x1200
idle = record { from = lit≤ tt; gap = inl (lit≤ tt); below = lit< tt; aligned = refl }

no_task : IsBlockPlace 0x1400
no_task = record { from = lit≤ tt; gap = inl (lit≤ tt); below = lit< tt; aligned = refl }

front_idle : IsBlockPlace 0x1600
front_idle = record { from = lit≤ tt; gap = inl (lit≤ tt); below = lit< tt; aligned = refl }

job : IsBlockPlace 0x1800
job = record { from = lit≤ tt; gap = inl (lit≤ tt); below = lit< tt; aligned = refl }

pub write-requires-clause-place : goal.write-requires-clause-place
write-requires-clause-place c = idle

pub write-requires-2-clause-place : goal.write-requires-2-clause-place
write-requires-2-clause-place c = no_task

pub write-requires-3-clause-place : goal.write-requires-3-clause-place
write-requires-3-clause-place c = no_task

pub write-requires-4-clause-place : goal.write-requires-4-clause-place
write-requires-4-clause-place c = front_idle

pub write-requires-5-clause-place : goal.write-requires-5-clause-place
write-requires-5-clause-place c = job

pub write-requires-6-clause-place : goal.write-requires-6-clause-place
write-requires-6-clause-place c = job

pub write-requires-7-clause-place : goal.write-requires-7-clause-place
write-requires-7-clause-place c = job

pub returns-clause-wrote : goal.returns-clause-wrote
unfolding written
returns-clause-wrote c =
    rw (c.set.ensures.wrote, c.write-7.ensures.wrote, c.write-6.ensures.wrote, c.write-5.ensures.wrote, c.write-4.ensures.wrote, c.write-3.ensures.wrote, c.write-2.ensures.wrote, c.write.ensures.wrote, c.label.ensures, c.label-2.ensures, c.label-3.ensures, c.label-4.ensures, c.label-5.ensures) refl
