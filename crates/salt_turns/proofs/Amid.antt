-- A unit's commit over messages, event after event: what comes next can be done, and what it makes of what nodes hold.
use Rattle.salt_turns.specs.Amid.{IsAmid, IsDue, IsOnTheWay, IsSent, behind_next, next_by, next_in, next_of, status_now}
use Rattle.salt_turns.specs.declared.coming.Next.TheVariants as next
use Rattle.salt_net.proofs.Changing.{delivery_changes}
use Rattle.salt_net.proofs.Committing.{Somewhere, one_more, somewhere_along}
use Rattle.salt_net.proofs.Ending.{Stands, delivers, ended_here, get_behind, get_below, get_still, resent_next, restarts, taken_next}
use Rattle.salt_net.proofs.Few.{named_node}
use Rattle.salt_net.proofs.Flowing.{Flows, flows_on}
use Rattle.salt_net.proofs.Lists.{Every, all_named, every_map, same_self}
use Rattle.salt_net.proofs.Sound.{Fits, HasDecided, HasVoted, IsAbort, IsBacked, Steps, Tells, Voted, hearing_steps}
use Rattle.salt_net.specs.Deeds.{behind, decides_by, decides_when, deed, deed_at, deed_by, deed_of, ends, prepares}
use Rattle.salt_net.specs.Flags.{has_node, with_at}
use Rattle.salt_net.specs.Nets.Coordinator.{Decided, Started}
use Rattle.salt_net.specs.Nets.{Coordinator, NetState, Poll, after, can_happen, coordinator_status, done_in, done_to, hearing, no_net, node_of, reacted, resending, state_of, status_by, status_of, unit_of, with_poll}
use Rattle.salt_net.specs.Paces.{CanGoOn, Pace, gone_on, turning_of}
use Rattle.salt_net.specs.Turns.{Turning, is_done, turn, turn_events}
use Rattle.salt_net.specs.Twists.{twist}
use Rattle.salt_net.specs.declared.kinds.Deed.TheVariants as deeds
use Rattle.salt_net.specs.declared.kinds.Deed.{Deed}
use Rattle.salt_net.specs.declared.kinds.Message.TheVariants.{Asked, Decide, Done, Prepare, Vote}
use Rattle.salt_net.specs.declared.kinds.Message.{Message}
use Rattle.salt_net.specs.declared.kinds.NetEvent.TheVariants.{Ask, Deliver, Refuse, Resend, Restart, Start}
use Rattle.salt_net.specs.declared.kinds.NetEvent.{NetEvent}
use Rattle.salt_net.specs.declared.kinds.NodeStatus.TheVariants.{Abort, Commit, Idle, Prepared, Started as Voting, Unknown}
use Rattle.salt_net.specs.declared.kinds.NodeStatus.{NodeStatus}
use Rattle.salt_net.specs.declared.waiting.Twist.TheVariants.{Lost, Plain, Restarted, Twice}
use Rattle.salt_net.specs.declared.waiting.Twist.{Twist}
use Rattle.salt_values.specs.Id.{is_same_id}
use Rattle.salt_values.specs.declared.id.Id.{Id}
use Rattle.std.proofs.Common.{ap, append_assoc, arith, inl, inr, subst, sym, ◌∙◌}
use Rattle.std.proofs.lemmas.Bool.Decides.{nat_tests}
use Rattle.std.proofs.lemmas.Bool.{eqb-true}
use Rattle.std.proofs.lemmas.List.Sums.{fold-append}
use Rattle.std.proofs.lemmas.List.{append-nil, append_cancel_left}
use Rattle.std.specs.List.{list_all}
use Rattle.std.specs.Option.{is_some}
use Rattle.std.specs.Prelude.{Bool, List, Option, Some, [], cond, false, nat_le, refl, slice_get, true, ℕ, ◌+◌, ◌++◌, ◌==◌, ◌∷◌, ◌≡◌, ◌≢◌, ◌≤◌, ◌⊎◌}

-- EVENT AFTER EVENT

own_poll : (u : Id) (n : Poll) (polls : Id → Option Poll) → with_poll u n polls u ≡ Some n
own_poll u n polls = ap (λ b. cond b (Some n) (polls u)) (same_self u)

due_on : (u : Id) (s z : NetState) (poll n : Poll) → ((i : ℕ) (m : Message) → slice_get s.sent i ≡ Some m → slice_get z.sent i ≡ Some m) → n.nodes ≡ poll.nodes → ((m : Message) → Tells m poll → Tells m n)
    → (e : NetEvent) → IsDue u s poll e → IsDue u z n e
due_on u s z poll n sent nodes kept (Start w ns) h = h
due_on u s z poll n sent nodes kept (Deliver i) h = record {
  message = h.message;
  there = sent i h.message h.there;
  about = h.about;
  backed = (subst (λ l. has_node (node_of h.message) l ≡ true) (sym nodes) h.backed.0, kept h.message h.backed.1);
}
due_on u s z poll n sent nodes kept (Refuse w p) h = h
due_on u s z poll n sent nodes kept (Resend w) h = h
due_on u s z poll n sent nodes kept (Ask w p) h = h
due_on u s z poll n sent nodes kept (Restart p) h = subst (λ l. has_node p l ≡ true) (sym nodes) h

sends_again : (s : NetState) (u : Id) (poll : Poll) → s.polls u ≡ Some poll → done_in s (Resend u) ≡ reacted s u (resending u poll)
sends_again s u poll here = ap (λ o. cond (is_some o) (after s (Resend u)) s) here ∙ ap (done_to s u (resending u)) here

steps_of : (u : Id) (m : Message) (poll : Poll) → unit_of m ≡ u → Flows poll → IsBacked m poll → Steps u poll (hearing m poll)
steps_of u m poll e flows backed = subst (λ w. Steps w poll (hearing m poll)) e (hearing_steps m poll flows.sound backed)

amid_delivered : (u : Id) (nodes : List ℕ) (s : NetState) (i : ℕ) (es : List NetEvent) → IsAmid u nodes s (Deliver i ∷ es) → IsAmid u nodes (done_in s (Deliver i)) es
amid_delivered u nodes s i es a =
    let h : IsSent u s a.poll i = a.due.0 in
    let r = hearing h.message a.poll in
    let steps = steps_of u h.message a.poll h.about a.flows h.backed in
    subst (λ z. IsAmid u nodes z es) (sym (delivers s i u h.message a.poll h.there h.about a.here))
    (record {
      poll = r.next;
      here = own_poll u r.next s.polls;
      named = steps.nodes ∙ a.named;
      flows = flows_on h.message a.poll a.flows h.backed;
      due = every_map (IsDue u s a.poll) (IsDue u (reacted s u r) r.next) (due_on u s (reacted s u r) a.poll r.next (λ j m e. get_still s.sent r.sends j m e) steps.nodes steps.kept) es a.due.1;
    })

amid_resent : (u : Id) (nodes : List ℕ) (s : NetState) (w : Id) (es : List NetEvent) → IsAmid u nodes s (Resend w ∷ es) → IsAmid u nodes (done_in s (Resend w)) es
amid_resent u nodes s w es a =
    let r = resending u a.poll in
    let same : w ≡ u = a.due.0 in
    subst (λ z. IsAmid u nodes (done_in s (Resend z)) es) (sym same)
    (subst (λ z. IsAmid u nodes z es) (sym (sends_again s u a.poll a.here))
    (record {
      poll = a.poll;
      here = own_poll u a.poll s.polls;
      named = a.named;
      flows = a.flows;
      due = every_map (IsDue u s a.poll) (IsDue u (reacted s u r) a.poll) (due_on u s (reacted s u r) a.poll a.poll (λ j m e. get_still s.sent r.sends j m e) refl (λ m h. h)) es a.due.1;
    }))

amid_restarted : (u : Id) (nodes : List ℕ) (s : NetState) (p : ℕ) (es : List NetEvent) → IsAmid u nodes s (Restart p ∷ es) → IsAmid u nodes (done_in s (Restart p)) es
amid_restarted u nodes s p es a =
    let in_range = named_node a.poll.nodes p a.flows.sound.few a.due.0 in
    subst (λ z. IsAmid u nodes z es) (sym (restarts s p in_range.0 in_range.1)) (record { poll = a.poll; here = a.here; named = a.named; flows = a.flows; due = a.due.1 })

amid_next : (u : Id) (nodes : List ℕ) (s : NetState) (e : NetEvent) (es : List NetEvent) → IsAmid u nodes s (e ∷ es) → IsAmid u nodes (done_in s e) es
amid_next u nodes s (Start w ns) es a = absurd a.due.0
amid_next u nodes s (Deliver i) es a = amid_delivered u nodes s i es a
amid_next u nodes s (Refuse w p) es a = absurd a.due.0
amid_next u nodes s (Resend w) es a = amid_resent u nodes s w es a
amid_next u nodes s (Ask w p) es a = absurd a.due.0
amid_next u nodes s (Restart p) es a = amid_restarted u nodes s p es a

can_next : (u : Id) (nodes : List ℕ) (s : NetState) (e : NetEvent) (es : List NetEvent) → IsAmid u nodes s (e ∷ es) → can_happen s e ≡ true
can_next u nodes s (Start w ns) es a = absurd a.due.0
can_next u nodes s (Deliver i) es a = let h : IsSent u s a.poll i = a.due.0 in get_below s.sent i h.message h.there
can_next u nodes s (Refuse w p) es a = absurd a.due.0
can_next u nodes s (Resend w) es a = let same : w ≡ u = a.due.0 in ap (λ z. is_some (s.polls z)) same ∙ ap (λ o. is_some o) a.here
can_next u nodes s (Ask w p) es a = absurd a.due.0
can_next u nodes s (Restart p) es a =
    let in_range = named_node a.poll.nodes p a.flows.sound.few a.due.0 in
    let small : nat_le p 8 ≡ true = grind (arith, nat_tests, in_range.1) in
    small

-- of other units the same is held behind it
others_next : (u : Id) (nodes : List ℕ) (s : NetState) (e : NetEvent) (es : List NetEvent) → IsAmid u nodes s (e ∷ es) → (w : Id) → is_same_id w u ≡ false → (done_in s e).polls w ≡ s.polls w
others_next u nodes s (Start v ns) es a w other = absurd a.due.0
others_next u nodes s (Deliver i) es a w other =
    let h : IsSent u s a.poll i = a.due.0 in
    ap (λ (z : NetState). z.polls w) (delivers s i u h.message a.poll h.there h.about a.here) ∙ ap (λ b. cond b (Some (hearing h.message a.poll).next) (s.polls w)) other
others_next u nodes s (Refuse v p) es a w other = absurd a.due.0
others_next u nodes s (Resend v) es a w other =
    let same : v ≡ u = a.due.0 in
    ap (λ z. (done_in s (Resend z)).polls w) same
    ∙ (ap (λ (z : NetState). z.polls w) (sends_again s u a.poll a.here) ∙ ap (λ b. cond b (Some (resending u a.poll).next) (s.polls w)) other)
others_next u nodes s (Ask v p) es a w other = absurd a.due.0
others_next u nodes s (Restart p) es a w other =
    let range = named_node a.poll.nodes p a.flows.sound.few a.due.0 in
    ap (λ (z : NetState). z.polls w) (restarts s p range.0 range.1)

pub amid_can : (u : Id) (nodes : List ℕ) (n : Pace) → IsAmid u nodes (state_of n.done) n.ahead → CanGoOn n n.ahead
amid_can u nodes n a = by n.ahead a
  where
    by : (es : List NetEvent) → IsAmid u nodes (state_of n.done) es → CanGoOn n es
    by [] k = tt
    by (e ∷ es) k = can_next u nodes (state_of n.done) e es k

-- one event more is done
pub record Gone (u : Id) (nodes : List ℕ) (n q : Pace) : Type 0 where
  pub amid : IsAmid u nodes (state_of q.done) q.ahead
  pub same : turning_of q ≡ turning_of n
  pub others : (w : Id) → is_same_id w u ≡ false → (state_of q.done).polls w ≡ (state_of n.done).polls w

pub goes_on : (u : Id) (nodes : List ℕ) (n q : Pace) → q ≡ gone_on n n.ahead → IsAmid u nodes (state_of n.done) n.ahead → Gone u nodes n q
goes_on u nodes n q is a = subst (Gone u nodes n) (sym is) (by n.done n.ahead n.taken n.waiting a)
  where
    by : (done ahead : List NetEvent) (taken : ℕ) (waiting : List (ℕ × ℕ)) → IsAmid u nodes (state_of done) ahead
        → Gone u nodes (record { done = done; ahead = ahead; taken = taken; waiting = waiting }) (gone_on (record { done = done; ahead = ahead; taken = taken; waiting = waiting }) ahead)
    by done [] taken waiting k = record { amid = k; same = refl; others = λ w other. refl }
    by done (e ∷ es) taken waiting k = record {
      amid = subst (λ s. IsAmid u nodes s es) (sym (fold-append done_in no_net done (e ∷ []))) (amid_next u nodes (state_of done) e es k);
      same = ap (λ (l : List NetEvent). record { events = l; taken = taken; waiting = waiting }) (append_assoc done (e ∷ []) es);
      others = λ w other. ap (λ (z : NetState). z.polls w) (fold-append done_in no_net done (e ∷ [])) ∙ others_next u nodes (state_of done) e es k w other;
    }

-- A TURN IS PLANNED

due_turn : (tw : Twist) (u : Id) (s : NetState) (taken : ℕ) (poll : Poll) (m : Message) (ms : List Message) → Stands u s taken poll (m ∷ ms) → Every (IsDue u s poll) (turn_events tw taken (node_of m))
due_turn tw u s taken poll m ms h = by tw
  where
    sent : IsSent u s poll taken
    sent = record {
      message = m;
      there = ap (λ l. slice_get l taken) h.sent ∙ (ap (slice_get (h.past ++ m ∷ ms)) (sym h.count) ∙ get_behind h.past m ms);
      about = h.about.0.0;
      backed = h.about.0.1;
    }

    by : (tw : Twist) → Every (IsDue u s poll) (turn_events tw taken (node_of m))
    by Lost = tt
    by Plain = (sent, tt)
    by Twice = (sent, (sent, tt))
    by Restarted = (h.about.0.1.0, (sent, tt))

one_poll : (a b : Poll) → Some a ≡ Some b → a ≡ b
one_poll a b e = cc

planned : (u : Id) (nodes : List ℕ) (t : Turning) (ahead : List NetEvent) → Somewhere u t → IsAmid u nodes (state_of t.events) [] → t.events ++ ahead ≡ (turn u t).events → IsAmid u nodes (state_of t.events) ahead
planned u nodes t ahead w a e = by w.left w.stands
  where
    named : w.poll.nodes ≡ nodes
    named = let same : w.poll ≡ a.poll = one_poll w.poll a.poll (sym w.stands.here ∙ a.here) in ap (λ (poll : Poll). poll.nodes) same ∙ a.named

    amid : (es : List NetEvent) → Every (IsDue u (state_of t.events) w.poll) es → t.events ++ ahead ≡ t.events ++ es → IsAmid u nodes (state_of t.events) ahead
    amid es due k = subst (IsAmid u nodes (state_of t.events)) (sym (append_cancel_left t.events ahead es k)) (record { poll = w.poll; here = w.stands.here; named = named; flows = w.stands.flows; due = due })

    ended : (d : Bool) → is_done w.poll ≡ d → Stands u (state_of t.events) t.taken w.poll [] → IsAmid u nodes (state_of t.events) ahead
    ended true k h = amid [] tt (e ∙ (ap (λ (z : Turning). z.events) (ended_here u t w.poll h k).still ∙ sym (append-nil t.events)))
    ended false k h = amid (Resend u ∷ []) (refl, tt) (e ∙ ap (λ (z : Turning). z.events) (resent_next u t w.poll h k))

    by : (ms : List Message) → Stands u (state_of t.events) t.taken w.poll ms → IsAmid u nodes (state_of t.events) ahead
    by [] h = ended (is_done w.poll) refl h
    by (m ∷ ms) h = amid (turn_events (twist t.waiting) t.taken (node_of m)) (due_turn (twist t.waiting) u (state_of t.events) t.taken w.poll m ms h) (e ∙ ap (λ (z : Turning). z.events) (taken_next u t w.poll m ms h))

events_done : (n : Pace) → n.ahead ≡ [] → (turning_of n).events ≡ n.done
events_done n e = ap (λ l. n.done ++ l) e ∙ append-nil n.done

amid_planned : (u : Id) (nodes : List ℕ) (n q : Pace) → n.ahead ≡ [] → Somewhere u (turning_of n) → IsAmid u nodes (state_of n.done) n.ahead → turning_of q ≡ turn u (turning_of n) → q.done ≡ n.done → IsAmid u nodes (state_of q.done) q.ahead
amid_planned u nodes n q none w a turned same =
    let done : (turning_of n).events ≡ q.done = events_done n none ∙ sym same in
    subst (λ es. IsAmid u nodes (state_of es) q.ahead) done
    (planned u nodes (turning_of n) q.ahead w
    (subst (λ es. IsAmid u nodes (state_of es) []) (sym (events_done n none)) (subst (IsAmid u nodes (state_of n.done)) none a))
    (ap (λ es. es ++ q.ahead) done ∙ ap (λ (t : Turning). t.events) turned))

-- TURNS ON THEIR WAY

pub way_somewhere : (u : Id) (nodes : List ℕ) (first : Turning) (n : Pace) → IsOnTheWay u nodes first n → Somewhere u (turning_of n)
way_somewhere u nodes first n w = subst (Somewhere u) (sym w.at) (somewhere_along w.count u first w.from)

pub way_gone : (u : Id) (nodes : List ℕ) (first : Turning) (n q : Pace) → IsOnTheWay u nodes first n → q ≡ gone_on n n.ahead → IsOnTheWay u nodes first q
way_gone u nodes first n q w is = let g = goes_on u nodes n q is w.amid in record { from = w.from; count = w.count; at = g.same ∙ w.at; amid = g.amid; others = λ v other. g.others v other ∙ w.others v other }

pub way_planned : (u : Id) (nodes : List ℕ) (first : Turning) (n q : Pace) → IsOnTheWay u nodes first n → n.ahead ≡ [] → turning_of q ≡ turn u (turning_of n) → q.done ≡ n.done → IsOnTheWay u nodes first q
way_planned u nodes first n q w none turned same = record {
  from = w.from;
  count = w.count + 1;
  at = turned ∙ (ap (turn u) w.at ∙ sym (one_more w.count u first));
  amid = amid_planned u nodes n q none (way_somewhere u nodes first n w) w.amid turned same;
  others = λ v other. ap (λ (l : List NetEvent). (state_of l).polls v) same ∙ w.others v other;
}

-- DEEDS

deed_is : (u : Id) (s : NetState) (poll : Poll) (i : ℕ) (h : IsSent u s poll i) → s.polls u ≡ Some poll → deed s i ≡ deed_of h.message poll
deed_is u s poll i h here = ap (deed_at s) h.there ∙ (ap (λ w. deed_by (s.polls w) h.message) h.about ∙ ap (λ o. deed_by o h.message) here)

voting_of : (u : Id) (s : NetState) (poll : Poll) → s.polls u ≡ Some poll → status_of s u 0 ≡ Voting → coordinator_status poll.coordinator ≡ Voting
voting_of u s poll here e = sym (ap (status_by 0) here) ∙ e

held_of : (u : Id) (s : NetState) (poll : Poll) (q : ℕ) → s.polls u ≡ Some poll → 1 ≤ q → status_of s u q ≡ poll.held q
held_of u s poll q here low =
    let other : (q == 0) ≡ false = grind (arith, nat_tests, low) in
    ap (status_by q) here ∙ ap (λ b. cond b (coordinator_status poll.coordinator) (poll.held q)) other

not_decided : (c : Coordinator) (d : Bool) → coordinator_status c ≡ Voting → HasDecided c d → ⊥
not_decided (Started voted) d e h = h
not_decided (Decided true done) d e h = cc
not_decided (Decided false done) d e h = cc

-- of each message
prepares_what : (p q : ℕ) (s : NodeStatus) → prepares q s ≡ deeds.Prepares p → (q ≡ p) × (s ≡ Idle)
prepares_what p q Idle e = (cc, refl)
prepares_what p q Prepared e = absurd cc
prepares_what p q Commit e = absurd cc
prepares_what p q Abort e = absurd cc
prepares_what p q Unknown e = absurd cc
prepares_what p q Voting e = absurd cc

abbrev is_deciding : Deed → Bool
is_deciding (deeds.Decides commit) = true
is_deciding _ = false

abbrev is_ending : Deed → Bool
is_ending (deeds.Ends p commit) = true
is_ending _ = false

abbrev is_preparing : Deed → Bool
is_preparing (deeds.Prepares p) = true
is_preparing _ = false

abbrev IsBare : Deed → Type 0
IsBare d = (is_ending d ≡ false) × (is_preparing d ≡ false)

vote_bare : (p : ℕ) (aye : Bool) (nodes : List ℕ) (c : Coordinator) → IsBare (decides_by p aye nodes c)
vote_bare p true nodes (Started voted) = by (list_all (with_at p true voted) nodes)
  where
    by : (b : Bool) → IsBare (decides_when b)
    by true = (refl, refl)
    by false = (refl, refl)
vote_bare p false nodes (Started voted) = (refl, refl)
vote_bare p true nodes (Decided commit done) = (refl, refl)
vote_bare p false nodes (Decided commit done) = (refl, refl)

prepares_only : (q : ℕ) (s : NodeStatus) → (is_ending (prepares q s) ≡ false) × (is_deciding (prepares q s) ≡ false)
prepares_only q Idle = (refl, refl)
prepares_only q Prepared = (refl, refl)
prepares_only q Commit = (refl, refl)
prepares_only q Abort = (refl, refl)
prepares_only q Unknown = (refl, refl)
prepares_only q Voting = (refl, refl)

ends_only : (q : ℕ) (commit : Bool) (s : NodeStatus) → (is_preparing (ends q commit s) ≡ false) × (is_deciding (ends q commit s) ≡ false)
ends_only q commit Idle = (refl, refl)
ends_only q commit Prepared = (refl, refl)
ends_only q commit Commit = (refl, refl)
ends_only q commit Abort = (refl, refl)
ends_only q commit Unknown = (refl, refl)
ends_only q commit Voting = (refl, refl)

ends_what : (p q : ℕ) (d commit : Bool) (s : NodeStatus) → ends q d s ≡ deeds.Ends p commit → (q ≡ p) × (d ≡ commit)
ends_what p q d commit Idle e = (cc, cc)
ends_what p q d commit Prepared e = (cc, cc)
ends_what p q d commit Commit e = absurd cc
ends_what p q d commit Abort e = absurd cc
ends_what p q d commit Unknown e = absurd cc
ends_what p q d commit Voting e = absurd cc

clash : (f : Deed → Bool) (a b : Deed) → a ≡ b → f b ≡ true → f a ≡ false → ⊥
clash f a b e so unso = let wrong : false ≡ true = sym unso ∙ (ap f e ∙ so) in cc

deed_prepares : (m : Message) (poll : Poll) (p : ℕ) → deed_of m poll ≡ deeds.Prepares p → (node_of m ≡ p) × (poll.held p ≡ Idle)
deed_prepares (Prepare u q) poll p e = let h = prepares_what p q (poll.held q) e in (h.0, subst (λ z. poll.held z ≡ Idle) h.0 h.1)
deed_prepares (Vote u q aye) poll p e = absurd (clash is_preparing _ _ e refl (vote_bare q aye poll.nodes poll.coordinator).1)
deed_prepares (Decide u q d) poll p e = absurd (clash is_preparing _ _ e refl (ends_only q d (poll.held q)).0)
deed_prepares (Done u q) poll p e = absurd cc
deed_prepares (Asked u q) poll p e = absurd cc

deed_ends : (m : Message) (poll : Poll) (p : ℕ) (commit : Bool) → deed_of m poll ≡ deeds.Ends p commit → IsBacked m poll → (node_of m ≡ p) × HasDecided poll.coordinator commit
deed_ends (Prepare u q) poll p commit e backed = absurd (clash is_ending _ _ e refl (prepares_only q (poll.held q)).0)
deed_ends (Vote u q aye) poll p commit e backed = absurd (clash is_ending _ _ e refl (vote_bare q aye poll.nodes poll.coordinator).0)
deed_ends (Decide u q d) poll p commit e backed = let h = ends_what p q d commit (poll.held q) e in (h.0, subst (HasDecided poll.coordinator) h.1 backed.1)
deed_ends (Done u q) poll p commit e backed = absurd cc
deed_ends (Asked u q) poll p commit e backed = absurd cc

-- where all have voted, all are prepared
one_prepared : (s : NodeStatus) (voted : ℕ → Bool) (q : ℕ) → Fits true s (Started voted) q → (IsAbort s → ⊥) → HasVoted s (Started voted) ⊎ (voted q ≡ true) → s ≡ Prepared
one_prepared Idle voted q fits clear (inl h) = absurd h
one_prepared Idle voted q fits clear (inr e) = absurd (let wrong : false ≡ true = sym fits ∙ e in cc)
one_prepared Prepared voted q fits clear h = refl
one_prepared Commit voted q fits clear h = absurd fits
one_prepared Abort voted q fits clear h = absurd (clear tt)
one_prepared Unknown voted q fits clear h = absurd fits
one_prepared Voting voted q fits clear h = absurd fits

all_prepared : (nodes : List ℕ) (voted : ℕ → Bool) (held : ℕ → NodeStatus) (p : ℕ) → Flows (record { nodes = nodes; coordinator = Started voted; held = held }) → HasVoted (held p) (Started voted) → list_all (with_at p true voted) nodes ≡ true
    → (q : ℕ) → has_node q nodes ≡ true → held q ≡ Prepared
all_prepared nodes voted held p flows told all q named = one_prepared (held q) voted q (subst (λ b. Fits b (held q) (Started voted) q) named (flows.sound.fits q)) (flows.held q) (by (q == p) refl (all_named (with_at p true voted) nodes q all named))
  where
    by : (b : Bool) → (q == p) ≡ b → cond b true (voted q) ≡ true → HasVoted (held q) (Started voted) ⊎ (voted q ≡ true)
    by true e h = inl (subst (λ z. HasVoted (held z) (Started voted)) (sym (eqb-true q p e)) told)
    by false e h = inr h

vote_decides : (p : ℕ) (aye : Bool) (nodes : List ℕ) (c : Coordinator) (held : ℕ → NodeStatus) (d : Bool) → Flows (record { nodes = nodes; coordinator = c; held = held }) → Voted aye (held p) c
    → decides_by p aye nodes c ≡ deeds.Decides d → (q : ℕ) → has_node q nodes ≡ true → held q ≡ Prepared
vote_decides p true nodes (Started voted) held d flows told e = all_prepared nodes voted held p flows told (by (list_all (with_at p true voted) nodes) e)
  where
    by : (b : Bool) → decides_when b ≡ deeds.Decides d → b ≡ true
    by true e = refl
    by false e = absurd cc
vote_decides p false nodes (Started voted) held d flows told e = absurd (flows.held p told)
vote_decides p true nodes (Decided commit done) held d flows told e = absurd cc
vote_decides p false nodes (Decided commit done) held d flows told e = absurd cc

deed_decides : (m : Message) (poll : Poll) (d : Bool) → deed_of m poll ≡ deeds.Decides d → IsBacked m poll → Flows poll → (q : ℕ) → has_node q poll.nodes ≡ true → poll.held q ≡ Prepared
deed_decides (Prepare u q) poll d e backed flows = absurd (clash is_deciding _ _ e refl (prepares_only q (poll.held q)).1)
deed_decides (Vote u q aye) poll d e backed flows = vote_decides q aye poll.nodes poll.coordinator poll.held d flows backed.1 e
deed_decides (Decide u q c) poll d e backed flows = absurd (clash is_deciding _ _ e refl (ends_only q c (poll.held q)).1)
deed_decides (Done u q) poll d e backed flows = absurd cc
deed_decides (Asked u q) poll d e backed flows = absurd cc

-- WHAT COMES NEXT

by_prepares : (d : Deed) (p : ℕ) → next_by d ≡ next.Prepares p → d ≡ deeds.Prepares p
by_prepares deeds.Nothing p e = absurd cc
by_prepares (deeds.Prepares q) p e = cc
by_prepares (deeds.Decides c) p e = absurd cc
by_prepares (deeds.Ends q c) p e = absurd cc

by_decides : (d : Deed) → next_by d ≡ next.Decides → (c : Bool) × (d ≡ deeds.Decides c)
by_decides deeds.Nothing e = absurd cc
by_decides (deeds.Prepares q) e = absurd cc
by_decides (deeds.Decides c) e = (c, refl)
by_decides (deeds.Ends q c) e = absurd cc

by_ends : (d : Deed) (p : ℕ) → next_by d ≡ next.Ends p → (c : Bool) × (d ≡ deeds.Ends p c)
by_ends deeds.Nothing p e = absurd cc
by_ends (deeds.Prepares q) p e = absurd cc
by_ends (deeds.Decides c) p e = absurd cc
by_ends (deeds.Ends q c) p e = (c, cc)

by_restarts : (d : Deed) (p : ℕ) → next_by d ≡ next.Restarts p → ⊥
by_restarts deeds.Nothing p e = cc
by_restarts (deeds.Prepares q) p e = cc
by_restarts (deeds.Decides c) p e = cc
by_restarts (deeds.Ends q c) p e = cc

module _ (u : Id) (nodes : List ℕ) (s : NetState) where
  pub restarts_named : (es : List NetEvent) → IsAmid u nodes s es → (p : ℕ) → next_of s es ≡ next.Restarts p → has_node p nodes ≡ true
  restarts_named [] a p e = absurd cc
  restarts_named (Start w ns ∷ es) a p e = absurd cc
  restarts_named (Deliver i ∷ es) a p e = absurd (by_restarts (deed s i) p e)
  restarts_named (Refuse w q ∷ es) a p e = absurd cc
  restarts_named (Resend w ∷ es) a p e = absurd cc
  restarts_named (Ask w q ∷ es) a p e = absurd cc
  restarts_named (Restart q ∷ es) a p e = let same : q ≡ p = cc in subst (λ z. has_node z nodes ≡ true) same (subst (λ l. has_node q l ≡ true) a.named a.due.0)

  pub prepares_idle : (es : List NetEvent) → IsAmid u nodes s es → (p : ℕ) → next_of s es ≡ next.Prepares p → (has_node p nodes ≡ true) × (status_of s u p ≡ Idle)
  prepares_idle [] a p e = absurd cc
  prepares_idle (Start w ns ∷ es) a p e = absurd cc
  prepares_idle (Deliver i ∷ es) a p e =
      let h : IsSent u s a.poll i = a.due.0 in
      let what = deed_prepares h.message a.poll p (sym (deed_is u s a.poll i h a.here) ∙ by_prepares (deed s i) p e) in
      let there : has_node p a.poll.nodes ≡ true = subst (λ z. has_node z a.poll.nodes ≡ true) what.0 h.backed.0 in
      (subst (λ l. has_node p l ≡ true) a.named there, held_of u s a.poll p a.here (named_node a.poll.nodes p a.flows.sound.few there).0 ∙ what.1)
  prepares_idle (Refuse w q ∷ es) a p e = absurd cc
  prepares_idle (Resend w ∷ es) a p e = absurd cc
  prepares_idle (Ask w q ∷ es) a p e = absurd cc
  prepares_idle (Restart q ∷ es) a p e = absurd cc

  pub ends_named : (es : List NetEvent) → IsAmid u nodes s es → (p : ℕ) → next_of s es ≡ next.Ends p → has_node p nodes ≡ true
  ends_named [] a p e = absurd cc
  ends_named (Start w ns ∷ es) a p e = absurd cc
  ends_named (Deliver i ∷ es) a p e =
      let h : IsSent u s a.poll i = a.due.0 in
      let is = by_ends (deed s i) p e in
      let what = deed_ends h.message a.poll p is.0 (sym (deed_is u s a.poll i h a.here) ∙ is.1) h.backed in
      subst (λ l. has_node p l ≡ true) a.named (subst (λ z. has_node z a.poll.nodes ≡ true) what.0 h.backed.0)
  ends_named (Refuse w q ∷ es) a p e = absurd cc
  ends_named (Resend w ∷ es) a p e = absurd cc
  ends_named (Ask w q ∷ es) a p e = absurd cc
  ends_named (Restart q ∷ es) a p e = absurd cc

  pub decides_prepared : (es : List NetEvent) → IsAmid u nodes s es → next_of s es ≡ next.Decides → (q : ℕ) → has_node q nodes ≡ true → status_of s u q ≡ Prepared
  decides_prepared [] a e q named = absurd cc
  decides_prepared (Start w ns ∷ es) a e q named = absurd cc
  decides_prepared (Deliver i ∷ es) a e q named =
      let h : IsSent u s a.poll i = a.due.0 in
      let is = by_decides (deed s i) e in
      let there : has_node q a.poll.nodes ≡ true = subst (λ l. has_node q l ≡ true) (sym a.named) named in
      held_of u s a.poll q a.here (named_node a.poll.nodes q a.flows.sound.few there).0
      ∙ deed_decides h.message a.poll is.0 (sym (deed_is u s a.poll i h a.here) ∙ is.1) h.backed a.flows q there
  decides_prepared (Refuse w p ∷ es) a e q named = absurd cc
  decides_prepared (Resend w ∷ es) a e q named = absurd cc
  decides_prepared (Ask w p ∷ es) a e q named = absurd cc
  decides_prepared (Restart p ∷ es) a e q named = absurd cc

  -- nodes that are named are 1 to 8
  pub in_range : (es : List NetEvent) → IsAmid u nodes s es → (p : ℕ) → has_node p nodes ≡ true → (1 ≤ p) × (p ≤ 8)
  in_range es a p named = named_node a.poll.nodes p a.flows.sound.few (subst (λ l. has_node p l ≡ true) (sym a.named) named)

behind_same : (d : Deed) (k : ℕ) (x : NodeStatus) → next_by d ≢ next.Decides → ((p : ℕ) (c : Bool) → d ≡ deeds.Ends p c → ⊥) → behind d k x ≡ behind_next (next_by d) k x
behind_same deeds.Nothing k x not never = refl
behind_same (deeds.Prepares p) k x not never = refl
behind_same (deeds.Decides c) k x not never = absurd (not refl)
behind_same (deeds.Ends p c) k x not never = absurd (never p c refl)

held_next : (u : Id) (nodes : List ℕ) (done : List NetEvent) (e : NetEvent) (es : List NetEvent) → IsAmid u nodes (state_of done) (e ∷ es) → status_of (state_of done) u 0 ≡ Voting → next_of (state_of done) (e ∷ es) ≢ next.Decides
    → (k : ℕ) → status_of (done_in (state_of done) e) u k ≡ behind_next (next_of (state_of done) (e ∷ es)) k (status_of (state_of done) u k)
held_next u nodes done (Start w ns) es a open_yet not k = absurd a.due.0
held_next u nodes done (Deliver i) es a open_yet not k =
    let s = state_of done in
    let h : IsSent u s a.poll i = a.due.0 in
    ap (λ b. status_of (cond b (after s (Deliver i)) s) u k) (get_below s.sent i h.message h.there)
    ∙ (subst (λ w. status_of (after s (Deliver i)) w k ≡ behind (deed s i) k (status_of s w k)) h.about (delivery_changes done i h.message h.there k)
    ∙ behind_same (deed s i) k (status_of s u k) not
    (λ p c e. not_decided a.poll.coordinator c (voting_of u s a.poll a.here open_yet) (deed_ends h.message a.poll p c (sym (deed_is u s a.poll i h a.here) ∙ e) h.backed).1))
held_next u nodes done (Refuse w p) es a open_yet not k = absurd a.due.0
held_next u nodes done (Resend w) es a open_yet not k =
    let s = state_of done in
    let same : w ≡ u = a.due.0 in
    ap (λ z. status_of (done_in s (Resend z)) u k) same
    ∙ (ap (λ z. status_of z u k) (sends_again s u a.poll a.here) ∙ (ap (status_by k) (own_poll u a.poll s.polls) ∙ sym (ap (status_by k) a.here)))
held_next u nodes done (Ask w p) es a open_yet not k = absurd a.due.0
held_next u nodes done (Restart p) es a open_yet not k =
    let s = state_of done in
    let range = named_node a.poll.nodes p a.flows.sound.few a.due.0 in
    ap (λ z. status_of z u k) (restarts s p range.0 range.1)

pub held_on : (u : Id) (nodes : List ℕ) (n q : Pace) → q ≡ gone_on n n.ahead → IsAmid u nodes (state_of n.done) n.ahead → status_now n u 0 ≡ Voting → next_in n ≢ next.Decides
    → (k : ℕ) → status_now q u k ≡ behind_next (next_in n) k (status_now n u k)
held_on u nodes n q is a open_yet not k = subst (λ (z : Pace). status_now z u k ≡ behind_next (next_in n) k (status_now n u k)) (sym is) (by n.done n.ahead n.taken n.waiting a open_yet not)
  where
    by : (done ahead : List NetEvent) (taken : ℕ) (waiting : List (ℕ × ℕ)) → IsAmid u nodes (state_of done) ahead → status_of (state_of done) u 0 ≡ Voting → next_of (state_of done) ahead ≢ next.Decides
        → status_now (gone_on (record { done = done; ahead = ahead; taken = taken; waiting = waiting }) ahead) u k ≡ behind_next (next_of (state_of done) ahead) k (status_of (state_of done) u k)
    by done [] taken waiting h o m = refl
    by done (e ∷ es) taken waiting h o m = ap (λ z. status_of z u k) (fold-append done_in no_net done (e ∷ [])) ∙ held_next u nodes done e es h o m k

-- while nothing is decided a node of the unit is idle or prepared
held_open : (s : NodeStatus) (c : Coordinator) (q : ℕ) → coordinator_status c ≡ Voting → Fits true s c q → (IsAbort s → ⊥) → (s ≡ Idle) ⊎ (s ≡ Prepared)
held_open Idle c q e fits clear = inl refl
held_open Prepared c q e fits clear = inr refl
held_open Commit c q e fits clear = absurd (not_decided c true e fits)
held_open Abort c q e fits clear = absurd (clear tt)
held_open Unknown c q e fits clear = absurd fits
held_open Voting c q e fits clear = absurd fits

pub undecided_held : (u : Id) (nodes : List ℕ) (s : NetState) (es : List NetEvent) → IsAmid u nodes s es → status_of s u 0 ≡ Voting → (q : ℕ) → has_node q nodes ≡ true → (status_of s u q ≡ Idle) ⊎ (status_of s u q ≡ Prepared)
undecided_held u nodes s es a e q named =
    let there : has_node q a.poll.nodes ≡ true = subst (λ l. has_node q l ≡ true) (sym a.named) named in
    let is = held_of u s a.poll q a.here (named_node a.poll.nodes q a.flows.sound.few there).0 in
    subst (λ (k : NodeStatus). (k ≡ Idle) ⊎ (k ≡ Prepared)) (sym is)
    (held_open (a.poll.held q) a.poll.coordinator q (voting_of u s a.poll a.here e) (subst (λ b. Fits b (a.poll.held q) a.poll.coordinator q) there (a.flows.sound.fits q)) (a.flows.held q))
