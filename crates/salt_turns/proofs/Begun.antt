-- A unit's turns begin.
use Rattle.salt_net.proofs.Ending.{started}
use Rattle.salt_net.specs.Flags.{are_nodes}
use Rattle.salt_net.specs.Nets.{can_happen, coordinator_status, leader_at_start, poll_at_start, state_of, status_by, status_in}
use Rattle.salt_net.specs.Paces.{Pace, turning_of}
use Rattle.salt_net.specs.declared.kinds.NetEvent.TheVariants.{Start}
use Rattle.salt_net.specs.declared.kinds.NetEvent.{NetEvent}
use Rattle.salt_net.specs.declared.kinds.NodeStatus.TheVariants.{Idle}
use Rattle.salt_turns.specs.Amid.{IsAmid, IsOnTheWay, IsUndecided, IsUnknown, Rests, first_of, status_now}
use Rattle.salt_values.specs.declared.id.Id.{Id}
use Rattle.std.proofs.Common.{Err, List, Ok, Result, Some, [], ap, arith, false, inl, inr, refl, subst, sym, true, ℕ, ◌++◌, ◌≡◌, ◌≤◌, ◌∙◌, ◌∷◌}
use Rattle.std.proofs.lemmas.Bool.Decides.{nat_tests}
use Rattle.std.proofs.lemmas.List.{append-nil}
use Rattle.std.specs.Option.{is_none}
use Rattle.std.specs.Prelude.{OnOk, cond, ◌&&◌, ◌==◌}

-- what a call has answered
pub on_map : {T E : Type 0} (r : Result T E) (P Q : Type 0) → (P → Q) → OnOk r P → OnOk r Q
on_map (Ok x) P Q f h = f h
on_map (Err e) P Q f h = tt

pub events_done : (n : Pace) → n.ahead ≡ [] → (turning_of n).events ≡ n.done
events_done n e = ap (λ l. n.done ++ l) e ∙ append-nil n.done

pub may_start : (u : Id) (nodes : List ℕ) (n : Pace) → IsUnknown u n → are_nodes nodes ≡ true → can_happen (state_of n.done) (Start u nodes) ≡ true
may_start u nodes n new few = ap (λ o. is_none o && are_nodes nodes) new ∙ few

pub can_start : (u : Id) (nodes : List ℕ) (n : Pace) → Rests n → IsUnknown u n → are_nodes nodes ≡ true → can_happen (state_of (turning_of n).events) (Start u nodes) ≡ true
can_start u nodes n rests new few = subst (λ l. can_happen (state_of l) (Start u nodes) ≡ true) (sym (events_done n rests.ahead)) (may_start u nodes n new few)

module _ (u : Id) (nodes : List ℕ) (n q : Pace) (rests : Rests n) (new : IsUnknown u n) (few : are_nodes nodes ≡ true) (is : q ≡ record n { done = n.done ++ Start u nodes ∷ [] }) where
  same_turning : turning_of q ≡ first_of u nodes n
  same_turning = ap turning_of is ∙ ap (λ (l : List NetEvent). record { events = l; taken = n.taken; waiting = n.waiting })
      (ap (λ l. (n.done ++ Start u nodes ∷ []) ++ l) rests.ahead ∙ (append-nil (n.done ++ Start u nodes ∷ []) ∙ ap (λ l. l ++ Start u nodes ∷ []) (sym (events_done n rests.ahead))))

  done_is : q.done ≡ (turning_of n).events ++ Start u nodes ∷ []
  done_is = ap (λ (p : Pace). p.done) is ∙ ap (λ l. l ++ Start u nodes ∷ []) (sym (events_done n rests.ahead))

  ahead_is : q.ahead ≡ []
  ahead_is = ap (λ (p : Pace). p.ahead) is ∙ rests.ahead

  pub begun_way : IsOnTheWay u nodes (first_of u nodes n) q
  begun_way =
      let stands = started u nodes (turning_of n) rests.quiet (can_start u nodes n rests new few) in
      record {
        from = record { poll = poll_at_start nodes; left = _; stands = stands };
        count = 0;
        at = same_turning;
        amid = subst (λ es. IsAmid u nodes (state_of q.done) es) (sym ahead_is)
            (subst (λ l. IsAmid u nodes (state_of l) []) (sym done_is) (record { poll = poll_at_start nodes; here = stands.here; named = refl; flows = stands.flows; due = tt }));
        others = λ w other. ap (λ (l : List NetEvent). (state_of l).polls w) done_is;
      }

  polls_now : (state_of q.done).polls u ≡ Some (poll_at_start nodes)
  polls_now = ap (λ l. (state_of l).polls u) done_is ∙ (started u nodes (turning_of n) rests.quiet (can_start u nodes n rests new few)).here

  pub begun_idle : (p : ℕ) → 1 ≤ p → status_now q u p ≡ Idle
  begun_idle p low =
      let other : (p == 0) ≡ false = grind (arith, nat_tests, low) in
      ap (status_by p) polls_now ∙ ap (λ b. cond b (coordinator_status (leader_at_start nodes)) Idle) other

  pub begun_undecided : IsUndecided u nodes q
  begun_undecided = by nodes refl
    where
      by : (l : List ℕ) → nodes ≡ l → IsUndecided u nodes q
      by [] e = inr e
      by (x ∷ l) e = inl (ap (status_by 0) polls_now ∙ ap (λ (k : List ℕ). status_in (poll_at_start k) 0) e)
