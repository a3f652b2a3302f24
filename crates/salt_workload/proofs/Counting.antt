-- Counting one event more.
use Rattle.salt_model.specs.Releasing.{released_names}
use Rattle.salt_model.specs.declared.events.Event.{Event}
use Rattle.salt_model.specs.declared.events.Event.TheVariants.{Did}
use Rattle.salt_workload.specs.Counts.{AreCounts}
use Rattle.salt_model.specs.Summary.{count_of, last_value}
use Rattle.salt_workload.specs.Summary.{cell_of, is_accepted, is_began, is_committed, is_victim, is_waits, released_count}
use Rattle.salt_workload.specs.declared.counts.Counts.{Counts}
use Rattle.salt_values.specs.declared.value.Value.{Value}
use Rattle.std.proofs.Common.{ap, append-nil, arith, get_or, length-append, length-take, take, subst, sym, ◌∙◌}
use Rattle.std.proofs.lemmas.List.{take_more}
use Rattle.std.specs.List.{filter, flat_map}
use Rattle.std.specs.Prelude.{Bool, List, None, Option, [], cond, false, length, refl, true, ℕ, ◌+◌, ◌++◌, ◌-◌, ◌<◌, ◌^◌, ◌∷◌, ◌≡◌, ◌≤◌}

count-more : (is : Event → Bool) (story : List Event) (e : Event) → count_of is (story ++ e ∷ []) ≡ count_of is story + count_of is (e ∷ [])
count-more is [] e = omega arith
count-more is (x ∷ story) e = by (is x) (count-more is story e)
  where
    by : (t : Bool) → count_of is (story ++ e ∷ []) ≡ count_of is story + count_of is (e ∷ []) →
        length (cond t (x ∷ filter is (story ++ e ∷ [])) (filter is (story ++ e ∷ []))) ≡ length (cond t (x ∷ filter is story) (filter is story)) + count_of is (e ∷ [])
    by true h = omega (arith, h)
    by false h = h

count-most : (is : Event → Bool) (story : List Event) → count_of is story ≤ length story
count-most is [] = omega arith
count-most is (x ∷ story) = by (is x) (count-most is story)
  where
    by : (t : Bool) → count_of is story ≤ length story → length (cond t (x ∷ filter is story) (filter is story)) ≤ length (x ∷ story)
    by true h = omega (arith, h)
    by false h = omega (arith, h)

-- a count of events leaves room for one more
pub fits-one : (is : Event → Bool) (n : ℕ) (story : List Event) → n ≡ count_of is story → length story < 2 ^ 64 - 1 → n + 1 < 2 ^ 64
fits-one is n story same few = let most = count-most is story in omega (arith, same, few, most)

pub fits-released : (c : Counts) (story : List Event) (n : ℕ) → AreCounts c story → length story < 2 ^ 64 - 1 → n < 2 ^ 64 → c.released + n < 2 ^ 128
fits-released c story n are few m = let most = are.few in omega (arith, few, m, most)

released-more : (story : List Event) (e : Event) → released_count (story ++ e ∷ []) ≡ released_count story + length (released_names e)
released-more [] e = let l = ap length (append-nil (released_names e)) in omega (arith, l)
released-more (x ∷ story) e =
    let l = length-append (released_names x) (flat_map released_names (story ++ e ∷ [])) in
    let m = length-append (released_names x) (flat_map released_names story) in
    let h = released-more story e in
    omega (arith, l, m, h)

pub counts-more : (c d : Counts) (e : Event) (story : List Event) → AreCounts c story → d.units ≡ c.units + count_of is_began (e ∷ []) →
    d.committed ≡ c.committed + count_of is_committed (e ∷ []) → d.accepted ≡ c.accepted + count_of is_accepted (e ∷ []) →
    d.waits ≡ c.waits + count_of is_waits (e ∷ []) → d.victims ≡ c.victims + count_of is_victim (e ∷ []) →
    d.released ≡ c.released + length (released_names e) → length (released_names e) < 2 ^ 64 → AreCounts d (story ++ e ∷ [])
counts-more c d e story are units committed accepted waits victims released few = record {
  units = units ∙ ap (λ n. n + count_of is_began (e ∷ [])) are.units ∙ sym (count-more is_began story e);
  committed = committed ∙ ap (λ n. n + count_of is_committed (e ∷ [])) are.committed ∙ sym (count-more is_committed story e);
  accepted = accepted ∙ ap (λ n. n + count_of is_accepted (e ∷ [])) are.accepted ∙ sym (count-more is_accepted story e);
  waits = waits ∙ ap (λ n. n + count_of is_waits (e ∷ [])) are.waits ∙ sym (count-more is_waits story e);
  victims = victims ∙ ap (λ n. n + count_of is_victim (e ∷ [])) are.victims ∙ sym (count-more is_victim story e);
  released = released ∙ ap (λ n. n + length (released_names e)) are.released ∙ sym (released-more story e);
  few = let l = length-append story (e ∷ []) in let most = are.few in omega (arith, l, most, few, released);
}

-- the last value, with one event more
last-more : (found : Option Value) (story : List Event) (e : Event) → last_value found (story ++ e ∷ []) ≡ last_value (last_value found story) (e ∷ [])
last-more found [] e = refl
last-more found (Did u st a ∷ story) e = last-more (cell_of a) story e
last-more found (x ∷ story) e = last-more found story e

pub last-taken : (story : List Event) (i : ℕ) (e : Event) (found : Option Value) → i < length story → e ≡ get_or story i e → found ≡ last_value (last_value None (take i story)) (e ∷ []) →
    found ≡ last_value None (take (i + 1) story)
last-taken story i e found within is told =
    told ∙ sym (last-more None (take i story) e) ∙ ap (λ x. last_value None (take i story ++ x ∷ [])) is ∙ ap (last_value None) (sym (take_more story i e within))

pub counts-taken : (c : Counts) (story : List Event) (i : ℕ) (e : Event) → i < length story → e ≡ get_or story i e → AreCounts c (take i story ++ e ∷ []) → AreCounts c (take (i + 1) story)
counts-taken c story i e within is are =
    subst (AreCounts c) (sym (take_more story i e within)) (subst (λ x. AreCounts c (take i story ++ x ∷ [])) is are)

pub few-taken : (story : List Event) (i : ℕ) → i < length story → length story < 2 ^ 64 → length (take i story) < 2 ^ 64 - 1
few-taken story i within few = let l = length-take i story in omega (arith, l, within, few)
