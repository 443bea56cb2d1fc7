use Rattle.bench_core.proofs.Settled.{bench_counted}
use Rattle.bench_core.proofs.Held.{bench_held}
use Rattle.bench_core.proofs.bench.Bench.is_enabled.Goals as goal

pub is_enabled-requires-clause-counted : goal.is_enabled-requires-clause-counted
is_enabled-requires-clause-counted c = bench_counted c.self.inside.state.setting c.self.inside.entries.items c.self.inside.state.world _ c.self.invariant

pub is_enabled-requires-clause-held : goal.is_enabled-requires-clause-held
is_enabled-requires-clause-held c = bench_held c.self.inside.state.setting c.self.inside.entries.items c.self.inside.state.world _ c.self.invariant
