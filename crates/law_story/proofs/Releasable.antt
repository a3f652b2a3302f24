-- The pruned list of the programs to release is that of the releasable ones.
use Rattle.law_story.proofs.Lists.{In, PassesSelf, all-in, either, has-in, in-has, in-order, in-shrink, in-without, into-all, into-filter, into-order, into-shrink, or_cases, or_left_true, or_right_true, shrink-ends}
use Rattle.law_story.proofs.Sound.{releasable-finished}
use Rattle.salt_model.specs.Programs.{finished_in, left_out, over_in, released_in}
use Rattle.salt_model.specs.Reads.{read_directly, reads_within, releasable, to_release}
use Rattle.salt_model.specs.Releasing.{ReadsThrough, itself, through}
use Rattle.salt_model.specs.Trace.{Trace}
use Rattle.salt_values.specs.Id.{has_id, in_order, is_same_id, without}
use Rattle.salt_values.specs.declared.id.Id.{Id}
use Rattle.std.proofs.Common.{arith, inl, inr, sym, ◌∙◌}
use Rattle.std.specs.Prelude.{Bool, IsTrue, List, [], false, length, not, refl, true, ◌++◌, ◌||◌, ◌↔◌, ◌∷◌, ◌≡◌, ◌⊎◌}

-- every program that b reads from is finished, or released before
abbrev pub MayGo : Trace → Id → Type 0
MayGo trace b = (c : Id) → ReadsThrough trace b c → IsTrue (has_id c (finished_in trace) || has_id c (released_in trace))

module _ (trace : Trace) where
  abbrev start : List Id
  start = in_order (without (released_in trace) (finished_in trace))

  abbrev Out : Id → Type 0
  Out b = In b (releasable trace) ⊎ In b (released_in trace)

  out-next : (b c : Id) → ((x y : Id) → In x (released_in trace) → In y (read_directly x trace) → In y (released_in trace)) → Out b → In c (read_directly b trace) → Out c
  out-next b c closed (inl i) h =
      let all : PassesSelf (reads_within trace) (releasable trace) = shrink-ends (reads_within trace) _ start (omega arith) in
      let one : reads_within trace (releasable trace) b ≡ true = all-in (reads_within trace (releasable trace)) b (releasable trace) all i in
      let mine : (has_id c (releasable trace) || has_id c (released_in trace)) ≡ true = all-in _ c (read_directly b trace) one h in
      either (λ g. inl (has-in c _ g)) (λ g. inr (has-in c _ g)) (or_cases (has_id c (releasable trace)) _ mine)
  out-next b c closed (inr r) h = inr (closed b c r h)

  out-through : (b c : Id) → ((x y : Id) → In x (released_in trace) → In y (read_directly x trace) → In y (released_in trace)) → ReadsThrough trace b c → Out b → Out c
  out-through b c closed itself o = o
  out-through b c closed (through {c = x} h r) o = out-through x c closed r (out-next b x closed o (has-in x _ h))

  out-done : (c : Id) → Out c → (has_id c (finished_in trace) || has_id c (released_in trace)) ≡ true
  out-done c (inl i) = or_left_true (has_id c (finished_in trace)) _ (in-has c _ (releasable-finished trace c i))
  out-done c (inr r) = or_right_true (has_id c (finished_in trace)) _ (in-has c _ r)

  abbrev Due : Id → Type 0
  Due b = (has_id b (released_in trace) ≡ false) × MayGo trace b

  due-start : (b : Id) → Due b → In b start
  due-start b d = into-order b _ (into-filter (λ u. not (has_id u (released_in trace))) b (finished_in trace) (either (λ f. has-in b _ f) (λ r. absurd (let x : true ≡ false = sym r ∙ d.0 in cc)) (or_cases (has_id b (finished_in trace)) _ (d.1 b itself))) (rw d.0 refl))

  due-keeps : (xs : List Id) → ((b : Id) → Due b → In b xs) → (b : Id) → Due b → reads_within trace xs b ≡ true
  due-keeps xs all b d = into-all (λ c. has_id c xs || has_id c (released_in trace)) (read_directly b trace) (λ c h. go c (has_id c (released_in trace)) refl (λ x r. d.1 x (through (in-has c _ h) r)))
    where
      go : (c : Id) (t : Bool) → has_id c (released_in trace) ≡ t → MayGo trace c → (has_id c xs || has_id c (released_in trace)) ≡ true
      go c true e r = or_right_true (has_id c xs) _ e
      go c false e r = or_left_true (has_id c xs) _ (in-has c xs (all c (e, r)))

  not-in : (b : Id) → In b (releasable trace) → has_id b (released_in trace) ≡ false
  not-in b i = (in-without b (released_in trace) (finished_in trace) (in-order b _ (in-shrink (reads_within trace) _ b start i))).1

  -- exactly the releasable programs that are not released
  releasable-exact : ((x y : Id) → In x (released_in trace) → In y (read_directly x trace) → In y (released_in trace)) → (b : Id) → IsTrue (has_id b (releasable trace)) ↔ ((has_id b (released_in trace) ≡ false) × MayGo trace b)
  releasable-exact closed b = (
    (λ h. let i = has-in b (releasable trace) h in (not-in b i, (λ c r. out-done c (out-through b c closed r (inl i))))),
    (λ d. in-has b _ (into-shrink Due (reads_within trace) due-keeps (length start) start due-start b d)),
  )

  -- and of those that no early opening leaves out
  pub to_release-exact : ((x y : Id) → In x (released_in trace) → In y (read_directly x trace) → In y (released_in trace)) → (b : Id) → IsTrue (has_id b (to_release trace)) ↔ ((has_id b (over_in trace) ≡ false) × MayGo trace b)
  to_release-exact closed b = (
    (λ h. let r = in-without b (left_out trace) (releasable trace) (has-in b (to_release trace) h) in let x = (releasable-exact closed b).0 (in-has b (releasable trace) r.0) in (neither-has (left_out trace) r.1 x.0, x.1)),
    (λ d. let n = has-neither (left_out trace) d.0 in in-has b (to_release trace) (into-filter (λ u. not (has_id u (left_out trace))) b (releasable trace) (has-in b (releasable trace) ((releasable-exact closed b).1 (n.1, d.1))) (rw n.0 refl))),
  )
    where
      neither-has : (xs : List Id) → has_id b xs ≡ false → has_id b (released_in trace) ≡ false → has_id b (xs ++ released_in trace) ≡ false
      neither-has [] h g = g
      neither-has (x ∷ xs) h g = go (is_same_id b x) h (λ e. neither-has xs e g)
        where
          go : (t : Bool) → (t || has_id b xs) ≡ false → (has_id b xs ≡ false → has_id b (xs ++ released_in trace) ≡ false) → (t || has_id b (xs ++ released_in trace)) ≡ false
          go true e more = cc
          go false e more = more e

      has-neither : (xs : List Id) → has_id b (xs ++ released_in trace) ≡ false → (has_id b xs ≡ false) × (has_id b (released_in trace) ≡ false)
      has-neither [] h = (refl, h)
      has-neither (x ∷ xs) h = go (is_same_id b x) h (has-neither xs)
        where
          go : (t : Bool) → (t || has_id b (xs ++ released_in trace)) ≡ false → (has_id b (xs ++ released_in trace) ≡ false → (has_id b xs ≡ false) × (has_id b (released_in trace) ≡ false)) → ((t || has_id b xs) ≡ false) × (has_id b (released_in trace) ≡ false)
          go true e more = cc
          go false e more = more e
