use Rattle.rig_types.proofs.Extended.{extended_is_work, count_fits, work_after}
use Rattle.rig_types.proofs.work.Work.extend.Goals as goal

-- src/work.rt:38:22
pub overflow_cast-number : goal.overflow_cast-number
overflow_cast-number c =
    count_fits c.args.self.now.submitters _ c.args.submitter _ _ c.requires.there c.requires.few c.as_slice.ensures c.index-as_slice-submitter.is c.as_slice-2.ensures

-- src/work.rt:39:9
pub invariant_of-self : goal.invariant_of-self
invariant_of-self c = record {
  valid = work_after
      c.push.result
      _
      _
      _
      _
      _
      c.push.ensures.ok
      c.push.ensures.err
      (extended_is_work _ _ _ _ c.args.self.now.valid c.requires.there c.requires.in_range c.requires.few)
      c.args.self.now.valid;
}
