-- The turns of a unit that have ended are those of its commit.
use Rattle.salt_turns.proofs.Begun.{can_start, events_done}
use Rattle.salt_turns.specs.Amid.{HasEndedTurns, IsOnTheWay, IsUnknown, Rests, first_of}
use Rattle.salt_net.proofs.Ending.{commit_ends, turns_still}
use Rattle.salt_net.specs.Ended.{HasEnded, IsQuiet}
use Rattle.salt_net.specs.Flags.{are_nodes}
use Rattle.salt_net.specs.Nets.{NetState, after, done_in, no_net, poll_at_start, state_of}
use Rattle.salt_net.specs.Paces.{Pace, turning_of}
use Rattle.salt_net.specs.Turns.{Turning, commits, turn, turns, turns_most}
use Rattle.salt_net.specs.declared.kinds.NetEvent.TheVariants.{Start}
use Rattle.salt_net.specs.declared.kinds.NetEvent.{NetEvent}
use Rattle.salt_values.specs.Id.{is_same_id}
use Rattle.salt_values.specs.declared.id.Id.{Id}
use Rattle.std.proofs.Common.{List, Some, [], ap, arith, false, inl, inr, length, subst, suc, sym, true, zero, ℕ, ◌+◌, ◌-◌, ◌≡◌, ◌≤◌, ◌⊎◌, ◌∙◌, ◌∷◌}
use Rattle.std.proofs.lemmas.List.Sums.{fold-append}
use Rattle.std.specs.Prelude.{cond}

turns_more : (a b : ℕ) (u : Id) (t : Turning) → turns (a + b) u t ≡ turns b u (turns a u t)
turns_more zero b u t = let same : 0 + b ≡ b = omega arith in ap (λ k. turns k u t) same
turns_more (suc a) b u t = let same : suc a + b ≡ suc (a + b) = omega arith in ap (λ k. turns k u t) same ∙ turns_more a b u (turn u t)

-- turns that go no further have come to one point
later : (a b : ℕ) (u : Id) (t : Turning) → a ≤ b → turn u (turns a u t) ≡ turns a u t → turns b u t ≡ turns a u t
later a b u t low still =
    let split : b ≡ a + (b - a) = omega (arith, low) in
    ap (λ k. turns k u t) split ∙ (turns_more a (b - a) u t ∙ turns_still (b - a) u (turns a u t) still)

meet : (a b : ℕ) (u : Id) (t : Turning) → turn u (turns a u t) ≡ turns a u t → turn u (turns b u t) ≡ turns b u t → turns a u t ≡ turns b u t
meet a b u t one two = by (order a b)
  where
    order : (a b : ℕ) → (a ≤ b) ⊎ (b ≤ a)
    order a b = grind arith

    by : (a ≤ b) ⊎ (b ≤ a) → turns a u t ≡ turns b u t
    by (inl low) = sym (later a b u t low one)
    by (inr low) = later b a u t low two

module _ (u : Id) (nodes : List ℕ) (n q : Pace) (rests : Rests n) (new : IsUnknown u n) (few : are_nodes nodes ≡ true) (way : IsOnTheWay u nodes (first_of u nodes n) q) (ended : HasEndedTurns u q) where
  has_ended : HasEnded u (commits u nodes (turning_of n))
  has_ended = commit_ends u nodes (turning_of n) rests.quiet (can_start u nodes n rests new few)

  pub turned : turning_of q ≡ commits u nodes (turning_of n)
  turned = way.at ∙ meet way.count (turns_most (length nodes) (length n.waiting)) u (first_of u nodes n) (ap (turn u) (sym way.at) ∙ (ended.still ∙ way.at)) has_ended.still

  pub rests_again : Rests q
  rests_again = record { ahead = ended.ahead; quiet = subst IsQuiet (sym turned) has_ended.quiet }

  -- what was not known of other units is not known
  pub unknown_still : (w : Id) → is_same_id w u ≡ false → IsUnknown w n → IsUnknown w q
  unknown_still w other unknown =
      let s = state_of (turning_of n).events in
      let begun : state_of (first_of u nodes n).events ≡ after s (Start u nodes) =
      fold-append done_in no_net (turning_of n).events (Start u nodes ∷ []) ∙ ap (λ b. cond b (after s (Start u nodes)) s) (can_start u nodes n rests new few) in
      way.others w other
      ∙ (ap (λ (z : NetState). z.polls w) begun
      ∙ (ap (λ b. cond b (Some (poll_at_start nodes)) (s.polls w)) other ∙ (ap (λ (l : List NetEvent). (state_of l).polls w) (events_done n rests.ahead) ∙ unknown)))
