use Rattle.bench_core.proofs.Settled.{bench_counted}
use Rattle.bench_core.proofs.Held.{bench_held}
use Rattle.bench_core.proofs.bench.Bench.seen.Goals as goal

pub seen-requires-clause-counted : goal.seen-requires-clause-counted
seen-requires-clause-counted c = bench_counted c.self.inside.state.setting c.self.inside.entries.items c.self.inside.state.world _ c.self.invariant

pub seen-requires-clause-held : goal.seen-requires-clause-held
seen-requires-clause-held c = bench_held c.self.inside.state.setting c.self.inside.entries.items c.self.inside.state.world _ c.self.invariant
