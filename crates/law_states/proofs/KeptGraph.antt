-- Who is served next, and the victim, from the kept locks, waiting units, pairs and finished programs.
use Rattle.law_states.proofs.Abandoned.{Firsts, firsts}
use Rattle.law_states.proofs.Closures.{same-bool, waiting-from}
use Rattle.law_states.proofs.Gone.{absent, not-dead, not-gone}
use Rattle.law_states.proofs.KeptTable.{clashing-from}
use Rattle.law_states.proofs.LocksAfter.{first-in}
use Rattle.law_states.proofs.Pairs.{}
use Rattle.law_states.specs.KeptLocks.{clash_in}
use Rattle.law_states.specs.KeptSources.{Dependencies, IsKnown, KeepsDependencies, abandoned_in, gone_in}
use Rattle.law_states.specs.KeptWaits.{AreSources, asker, clash_owners, edges_of, graph_unit, is_base_of, served_in, victim_in, waiting, waiting_for}
use Rattle.law_states.specs.Members.{In, SameMembers}
use Rattle.law_story.proofs.Hiding.{Hides, hides}
use Rattle.law_story.proofs.Lists.{either, has-in, in-cases, in-filter, in-filter_map, in-has, in-map, in-order}
use Rattle.law_story.proofs.NextFits.{wait-open}
use Rattle.law_story.proofs.Sound.{Sound}
use Rattle.law_story.proofs.Upheld.{OfBoots, holds}
use Rattle.law_story.proofs.WellKept.{of-start}
use Rattle.salt_ast.specs.declared.trees.Statement.{Statement}
use Rattle.salt_model.specs.After.{kept, reach_now}
use Rattle.salt_model.specs.Isolation.{is_committed_standing}
use Rattle.salt_model.specs.Kept.{WellKept}
use Rattle.salt_model.specs.Locks.{Taken, as_held, base_owner, base_tables, clash_locks, clashes, clashing, cover, cover_lock, cover_of, family_of, held, lock_by, lock_of, owners_of, saline_lock, taken_since, unit_owner}
use Rattle.salt_model.specs.Played.{IsPlayed}
use Rattle.salt_model.specs.Programs.{finished_in, named_early, passed_in, released_in}
use Rattle.salt_model.specs.Reads.{is_finished}
use Rattle.salt_model.specs.Trace.{Trace, start_of}
use Rattle.salt_model.specs.Units.{Never, Over, Running, Standing, Waiting, is_of_program, is_open, kind_of, program_of, standing, wait_list}
use Rattle.salt_model.specs.Waiting.{asked_by, clashing_now, edges_to, is_acid, next_unblocked, victim, victim_of, wait_unit, waiting_of}
use Rattle.salt_model.specs.Words.{first_of_list, is_empty}
use Rattle.salt_model.specs.declared.events.End.TheVariants.{Committed}
use Rattle.salt_model.specs.declared.events.Owner.{Owner}
use Rattle.salt_model.specs.declared.events.Owner.TheVariants.{Base, Unit}
use Rattle.salt_model.specs.declared.events.UnitKind.{UnitKind}
use Rattle.salt_model.specs.declared.locks.Family.TheVariants.{Saline}
use Rattle.salt_model.specs.declared.locks.Lock.{Lock}
use Rattle.salt_model.specs.declared.locks.Reach.{Reach}
use Rattle.salt_values.specs.Id.{has_id, in_order, is_same_id}
use Rattle.salt_values.specs.declared.id.Id.{Id}
use Rattle.std.proofs.Common.{ap, filter_map, inl, inr, subst, sym, ◌∙◌}
use Rattle.std.specs.Bool.{then_some}
use Rattle.std.specs.List.{filter, find, flat_map, list_any}
use Rattle.std.specs.Prelude.{Bool, List, None, Option, Some, [], cond, false, map, not, option_and_then, option_map, refl, true, ℕ, ◌&&◌, ◌++◌, ◌||◌, ◌∷◌, ◌≡◌}

-- whom a unit clashes with, by any list of the held locks
pub clash-kept : (trace : Trace) (ls : List Lock) → SameMembers ls (held trace) → (u : Id) → clashing_now trace u ≡ clash_owners ls (asker trace u)
clash-kept trace ls h u = by (asked_by u trace)
  where
    by : (o : Option Statement) → elim o [ None ↦ [] | Some st ↦ clashing trace u st ] ≡ owners_of (clash_in (Unit u) (family_of (kind_of u trace)) (option_and_then (reach_now u trace) o) ls)
    by None = refl
    by (Some st) = clashing-from trace ls h u st

pub served-kept : (trace : Trace) (ls : List Lock) → SameMembers ls (held trace) → next_unblocked trace ≡ served_in ls (waiting trace)
served-kept trace ls h = go (wait_list trace)
  where
    go : (us : List Id) → find (λ u. is_empty (clashing_now trace u)) us ≡ option_map (λ w. w.unit) (find (λ w. is_empty (clash_owners ls w)) (map (asker trace) us))
    go [] = refl
    go (u ∷ us) =
        ap (λ os. cond (is_empty os) (Some u) (find (λ u. is_empty (clashing_now trace u)) us)) (clash-kept trace ls h u)
        ∙ by (is_empty (clash_owners ls (asker trace u))) (go us)
      where
        by : (b : Bool) → find (λ u. is_empty (clashing_now trace u)) us ≡ option_map (λ w. w.unit) (find (λ w. is_empty (clash_owners ls w)) (map (asker trace) us)) →
            cond b (Some u) (find (λ u. is_empty (clashing_now trace u)) us) ≡ option_map (λ w. w.unit) (cond b (Some (asker trace u)) (find (λ w. is_empty (clash_owners ls w)) (map (asker trace) us)))
        by true e = refl
        by false e = e

and-false-right : (x : Bool) → (x && false) ≡ false
and-false-right true = refl
and-false-right false = refl

-- the waiting units of unfinished programs, by what is kept
pub waiting-kept : (trace : Trace) (d : Dependencies) → Sound trace → KeepsDependencies d trace → (bs : List Id) →
    waiting_of trace bs ≡ waiting_for d (waiting trace) bs
waiting-kept trace d s k bs = go (wait_list trace) (λ u i. wait-open trace u i)
  where
    of-base : (o : Option Id) (b : Id) → elim o [ None ↦ false | Some c ↦ is_same_id b c ] ≡ is_base_of o b
    of-base None b = refl
    of-base (Some c) b = refl

    finished : (b : Id) → has_id b (gone_in trace) ≡ false → is_finished trace b ≡ d.finished b
    finished b n =
        same-bool (is_finished trace b) (d.finished b) (λ e. (k.finished b).1 (record { finished = has-in b (finished_in trace) e; unreleased = n }))
        (λ e. in-has b (finished_in trace) ((k.finished b).0 e).finished)

    one : (u b : Id) → is_open trace u ≡ true →
        (not (is_finished trace b) && is_of_program b trace u) ≡ (not (d.finished b) && is_base_of (program_of u trace) b)
    one u b o = by (is_of_program b trace u) refl
      where
        by : (t : Bool) → is_of_program b trace u ≡ t → (not (is_finished trace b) && t) ≡ (not (d.finished b) && is_base_of (program_of u trace) b)
        by true e =
            λ i. not (finished b (not-dead trace b (λ j. s.alive b u o e j)) i) && (sym e ∙ of-base (program_of u trace) b) i
        by false e =
            and-false-right (not (is_finished trace b))
            ∙ sym (ap (λ t. not (d.finished b) && t) (sym (of-base (program_of u trace) b) ∙ e) ∙ and-false-right (not (d.finished b)))

    any-same : (u : Id) → is_open trace u ≡ true → (bs : List Id) →
        list_any (λ b. not (is_finished trace b) && is_of_program b trace u) bs ≡ list_any (λ b. not (d.finished b) && is_base_of (program_of u trace) b) bs
    any-same u o [] = refl
    any-same u o (b ∷ bs) = λ i. one u b o i || any-same u o bs i

    go : (us : List Id) → ((u : Id) → In u us → is_open trace u ≡ true) →
        filter (λ u. list_any (λ b. not (is_finished trace b) && is_of_program b trace u) bs) us ≡ map (λ w. w.unit) (filter (λ w. list_any (λ b. not (d.finished b) && is_base_of w.base b) bs) (map (asker trace) us))
    go [] o = refl
    go (u ∷ us) o =
        ap (λ t. cond t (u ∷ filter (λ u. list_any (λ b. not (is_finished trace b) && is_of_program b trace u) bs) us) (filter (λ u. list_any (λ b. not (is_finished trace b) && is_of_program b trace u) bs) us)) (any-same u (o u (inl refl)) bs)
        ∙ by (list_any (λ b. not (d.finished b) && is_base_of (program_of u trace) b) bs) (go us (λ x m. o x (inr m)))
      where
        by : (t : Bool) → filter (λ u. list_any (λ b. not (is_finished trace b) && is_of_program b trace u) bs) us ≡ map (λ w. w.unit) (filter (λ w. list_any (λ b. not (d.finished b) && is_base_of w.base b) bs) (map (asker trace) us)) →
            cond t (u ∷ filter (λ u. list_any (λ b. not (is_finished trace b) && is_of_program b trace u) bs) us) (filter (λ u. list_any (λ b. not (is_finished trace b) && is_of_program b trace u) bs) us) ≡ map (λ w. w.unit) (cond t (asker trace u ∷ filter (λ w. list_any (λ b. not (d.finished b) && is_base_of w.base b) bs) (map (asker trace) us)) (filter (λ w. list_any (λ b. not (d.finished b) && is_base_of w.base b) bs) (map (asker trace) us)))
        by true e = ap (λ l. u ∷ l) e
        by false e = e

-- a program that holds a lock is known
holder-known : (trace : Trace) → Firsts trace → Hides trace → (l : Lock) (c : Id) → In l (held trace) → l.owner ≡ Base c → IsKnown trace c
holder-known trace f d l c i e =
    either (λ j. covers (first_of_list (named_early trace)) refl j)
    (λ j. let t = in-filter_map (as_held trace) l (taken_since trace) j in by t.0 t.1 (standing t.0.unit trace) refl t.2)
    (in-cases l (cover trace) _ i)
  where
    of-cover : (b : Id) (ns : List ℕ) → In l (map (cover_lock b) ns) → b ≡ c
    of-cover b [] j = absurd j
    of-cover b (n ∷ ns) (inl q) = let o : Base b ≡ Base c = ap (λ (x : Lock). x.owner) q ∙ e in cc
    of-cover b (n ∷ ns) (inr j) = of-cover b ns j

    covers : (o : Option Id) → first_of_list (named_early trace) ≡ o → In l (cover_of (released_in trace) (base_tables (kept trace)) o) → IsKnown trace c
    covers None q j = absurd j
    covers (Some b) q j = its (has_id b (released_in trace)) refl j
      where
        its : (t : Bool) → has_id b (released_in trace) ≡ t → In l (cond t [] (map (cover_lock b) (base_tables (kept trace)))) → IsKnown trace c
        its true n j = absurd j
        its false n j =
            let i = first-in b (named_early trace) q in
            subst (IsKnown trace) (of-cover b (base_tables (kept trace)) j) (record {
              unreleased = not-gone trace b (absent b (passed_in trace) (λ m. d.unpassed b i m)) n;
              kept = absent b (abandoned_in trace) (f.accepted_kept b (d.named_accepted b i));
            })

    saline : (t : Taken) → In t (taken_since trace) → (p : Option Id) (r : Reach) → program_of t.unit trace ≡ p → is_committed_standing (standing t.unit trace) ≡ true →
        saline_lock trace p r ≡ Some l → IsKnown trace c
    saline t j None r q k h = cc
    saline t j (Some b) r q k h = its (has_id b (released_in trace)) refl h
      where
        its : (t : Bool) → has_id b (released_in trace) ≡ t → then_some (not t) (lock_of (Base b) Saline r) ≡ Some l → IsKnown trace c
        its true n h = cc
        its false n h =
            let m : lock_of (Base b) Saline r ≡ l = cc in
            let o : Base b ≡ Base c = ap (λ (x : Lock). x.owner) m ∙ e in
            let s : b ≡ c = cc in
            subst (IsKnown trace) s (record {
              unreleased = not-gone trace b (absent b (passed_in trace) (λ m. d.since t j b q m)) n;
              kept = absent b (abandoned_in trace) (f.committed_kept b t.unit k q);
            })

    unit-not : (u : Id) (k : Option UnitKind) (r : Reach) → Some (lock_of (Unit u) (family_of k) r) ≡ Some l → IsKnown trace c
    unit-not u k r h =
        let m : lock_of (Unit u) (family_of k) r ≡ l = cc in
        let o : Unit u ≡ Base c = ap (λ (x : Lock). x.owner) m ∙ e in cc

    by : (t : Taken) → In t (taken_since trace) → (s : Standing) → standing t.unit trace ≡ s → lock_by trace t s (kind_of t.unit trace) ≡ Some l → IsKnown trace c
    by t j (Over (Committed n)) q h = saline t j (program_of t.unit trace) t.reach refl (rw q refl) h
    by t j Running q h = unit-not t.unit (kind_of t.unit trace) t.reach h
    by t j Waiting q h = unit-not t.unit (kind_of t.unit trace) t.reach h
    by t j Never q h = cc
    by t j (Over end) q h = cc

-- so are the programs that a unit clashes with
owner-base : (ls : List Lock) (c : Id) → In (Base c) (owners_of ls) → (l : Lock) × In l ls × (l.owner ≡ Base c)
owner-base ls c h =
    either (λ i. let m = in-map Owner.Unit (Base c) _ i in absurd (no m.0 m.2))
    (λ i. let m = in-map Owner.Base (Base c) _ i in its m.0 m.2 (in-filter_map base_owner m.0 ls (in-order m.0 _ m.1)))
    (in-cases (Base c) (map Owner.Unit (in_order (filter_map unit_owner ls))) _ h)
  where
    no : (u : Id) → Owner.Unit u ≡ Base c → ⊥
    no u e = cc

    of-base : (l : Lock) (b : Id) → base_owner l ≡ Some b → l.owner ≡ Base b
    of-base l b e = by l.owner refl e
      where
        by : (o : Owner) → l.owner ≡ o → elim o [ Unit u ↦ None | Base b ↦ Some b ] ≡ Some b → o ≡ Base b
        by (Unit u) q e = cc
        by (Base x) q e = let s : x ≡ b = cc in ap Owner.Base s

    its : (b : Id) → Owner.Base b ≡ Base c → (l : Lock) × In l ls × (base_owner l ≡ Some b) → (l : Lock) × In l ls × (l.owner ≡ Base c)
    its b e m = (m.0, m.1, of-base m.0 b m.2 ∙ e)

clash-known : (trace : Trace) → Firsts trace → Hides trace → (u c : Id) → In (Base c) (clashing_now trace u) → IsKnown trace c
clash-known trace f d u c h = by (asked_by u trace) h
  where
    in-locks : (r : Option Reach) → In (Base c) (owners_of (clash_locks trace u (kind_of u trace) r)) → IsKnown trace c
    in-locks None i = absurd i
    in-locks (Some r) i =
        let m = owner-base (clash_locks trace u (kind_of u trace) (Some r)) c i in
        holder-known trace f d m.0 c (in-filter (clashes (Unit u) (family_of (kind_of u trace)) r) m.0 (held trace) m.1).0 m.2

    by : (o : Option Statement) → In (Base c) (elim o [ None ↦ [] | Some st ↦ clashing trace u st ]) → IsKnown trace c
    by None i = absurd i
    by (Some st) i = in-locks (reach_now u trace st) i

-- the victim is the one of the kept graph
pub victim-kept : (trace : Trace) (d : Dependencies) (ls : List Lock) (behind : Id → List Id) → IsPlayed trace → WellKept (start_of trace).kept →
    KeepsDependencies d trace → SameMembers ls (held trace) → AreSources trace d behind → victim trace ≡ victim_in d ls (waiting trace) behind
victim-kept trace d ls behind p w k h a = ap victim_of (go (wait_list trace))
  where
    o : OfBoots (start_of trace).kept
    o = of-start (start_of trace).kept w

    edges : (u : Id) (os : List Owner) → ((c : Id) → In (Base c) os → IsKnown trace c) →
        flat_map (edges_to trace) os ≡ flat_map (edges_of d (waiting trace) behind) os
    edges u [] n = refl
    edges u (Unit v ∷ os) n = ap (λ l. v ∷ l) (edges u os (λ c i. n c (inr i)))
    edges u (Base c ∷ os) n =
        let known = n c (inl refl) in
        λ i. (waiting-from trace d p w k c known (behind c) (a c known) ∙ waiting-kept trace d (holds trace p o).sound k (behind c)) i ++ edges u os (λ c i. n c (inr i)) i

    unit : (u : Id) → wait_unit trace u ≡ graph_unit d ls (waiting trace) behind (asker trace u)
    unit u =
        λ i. record { unit = u; acid = is_acid trace u; edges = (edges u (clashing_now trace u) (clash-known trace (firsts trace p o) (hides trace p o) u) ∙ ap (flat_map (edges_of d (waiting trace) behind)) (clash-kept trace ls h u)) i }

    go : (us : List Id) → map (wait_unit trace) us ≡ map (graph_unit d ls (waiting trace) behind) (map (asker trace) us)
    go [] = refl
    go (u ∷ us) = λ i. unit u i ∷ go us i
