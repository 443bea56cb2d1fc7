-- What a seat knows before any step: each submitter rests.
use Rattle.std.proofs.Common.{arith, ◌≡◌, ◌<◌, ◌+◌, ℕ, zero, suc, true, false, List, [], length, drop, replicate, slice_index_or, refl, sym, ap, subst, ◌∙◌}
use Rattle.std.proofs.lemmas.List.{get_or-replicate, get_or-map, length-map}
use Rattle.rig_types.specs.declared.step.Step.{Step}
use Rattle.rig_types.specs.declared.commands.Command.{Command}
use Rattle.rig_types.specs.declared.commands.WhenFull.{WhenFull}
use Rattle.bench_lock.specs.Log.{entries_of}
use Rattle.bench_lock.specs.declared.view.View.{View}
use Rattle.bench_lock.specs.Views.{IsOwn, left_view, right_view}
use Rattle.desk_law.specs.declared.ticket.Ticket.{Ticket}
use Rattle.desk_law.specs.Desk.{no_ticket, ticket}
use Rattle.world_law.specs.World.{BenchSetting, lines_of}
use Rattle.world_law.specs.Lines.{is_unqueued}
use Rattle.world_law.specs.Opening.{opened}
use Rattle.world_law.specs.Laws.{IsHeldBy}
use Rattle.world_law.specs.declared.reply.Decided.{Decided}
use Rattle.seat_law.specs.Worlds.{LeadsTo}
use Rattle.seat_law.specs.Standing.{rests, StandsIn}
use Rattle.seat_law.proofs.ListWorlds.{leads_none}
use Rattle.bench_pool.specs.Workers.{Sees}
use Rattle.pool_run.specs.Callers.{line_choices, choices_of, IsFresh, RestsAfter}

-- ---- the opening

no-ticket : (t : ℕ) → slice_index_or [] t no_ticket ≡ no_ticket
no-ticket zero = refl
no-ticket (suc t) = refl

holds-none : (g : BenchSetting) (s t : ℕ) → IsHeldBy s (ticket (opened g).desk t) → ⊥
holds-none g s t h =
    let e : false ≡ true = sym (ap (λ (k : Ticket). is_unqueued k.stage) (no-ticket t)) ∙ h.1 in
    absurd cc

rests_at_opening : (g : BenchSetting) (s : ℕ) → s < length g.submitters → StandsIn (opened g) s rests
rests_at_opening g s l =
    let none : slice_index_or (replicate (length g.submitters + 3) 0) s 0 ≡ 0 = get_or-replicate (length g.submitters + 3) s 0 0 (omega (arith, l)) in
    (none, holds-none g s)

no-lines : (g : BenchSetting) (s : ℕ) → s < length g.submitters → lines_of (opened g) s ≡ []
no-lines g s l = get_or-replicate (length g.submitters) s [] [] l

-- ---- a fresh seat

pub choices_count : (css : List (List Command)) (choices : List (List WhenFull)) → choices_of css ≡ choices → length css ≡ length choices
choices_count css choices e = sym (length-map css line_choices) ∙ ap (λ (xs : List (List WhenFull)). length xs) e

choices-at : (css : List (List Command)) (choices : List (List WhenFull)) (s : ℕ) (line : List WhenFull) → choices_of css ≡ choices → s < length choices
    → line ≡ slice_index_or choices s line → line_choices (slice_index_or css s []) ≡ line
choices-at css choices s line e l is =
    let within : s < length css = omega (arith, choices_count css choices e, l) in
    sym (get_or-map line_choices css s [] line within) ∙ (ap (λ (xs : List (List WhenFull)). slice_index_or xs s line) e ∙ sym is)

module _ (choices : List (List WhenFull)) (v : View BenchSetting Step) (h : IsFresh choices v) where
  fresh-own : IsOwn v v.seen
  fresh-own = (
    omega (arith, h.base),
    h.own ∙ sym (ap (λ (n : ℕ). entries_of v.caller (drop n v.seen)) h.base ∙ ap (λ (es : List (ℕ × Step)). entries_of v.caller (drop 0 es)) h.seen),
  )

  fresh-leads : LeadsTo h.setting v.seen (opened h.setting)
  fresh-leads = subst (λ (es : List (ℕ × Step)). LeadsTo h.setting es (opened h.setting)) (sym h.seen) (leads_none h.setting)

  pub fresh_sees : Sees v
  fresh_sees = record { setting = h.setting; sees = record { world = opened h.setting; opening = h.opening; leads = fresh-leads; own = fresh-own } }

  pub fresh_rests : (s : ℕ) (line : List WhenFull) → v.caller ≡ s → s < length choices → line ≡ slice_index_or choices s line → RestsAfter line s 0 v
  fresh_rests s line e l is =
      let below : s < length h.setting.submitters = omega (arith, choices_count h.setting.submitters choices h.are, l) in
      record {
        setting = h.setting;
        world = opened h.setting;
        at = record {
          opening = h.opening;
          leads = fresh-leads;
          own = fresh-own;
          submitter = subst (λ (c : ℕ). c < length h.setting.submitters) (sym e) below;
          stands = subst (λ (c : ℕ). StandsIn (opened h.setting) c rests) (sym e) (rests_at_opening h.setting s below);
        };
        own = sym e;
        are = choices-at h.setting.submitters choices s line h.are l is;
        decided = ap (λ (ds : List Decided). length ds) (no-lines h.setting s below);
      }

  -- both seats of a split are fresh
  pub fresh_left : (x : ℕ) → IsFresh choices (left_view x v)
  fresh_left x = record { setting = h.setting; opening = h.opening; are = h.are; seen = h.seen; own = h.own; base = h.base }

  pub fresh_right : (x : ℕ) → IsFresh choices (right_view x v)
  fresh_right x = record { setting = h.setting; opening = h.opening; are = h.are; seen = h.seen; own = refl; base = h.base }
