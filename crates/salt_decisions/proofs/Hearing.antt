-- Entries that are heard one after another.
use Rattle.salt_decisions.specs.Read.{HearsAll, HearsOne}
use Rattle.salt_decisions.specs.Said.{SaysTold}
use Rattle.salt_decisions.specs.declared.said.Said.{Said}
use Rattle.salt_disk.proofs.CallAfterCall.{cause_on, cause_none, same_shape}
use Rattle.salt_disk.specs.Disks.{HasCause, KeepsAll, View}
use Rattle.salt_gatelog.proofs.Entries.{keeps_then}
use Rattle.salt_gatelog.specs.Entry.{HasMoved}
use Rattle.salt_gatelog.specs.Log.{IsLog, count_of}
use Rattle.salt_gatelog.specs.declared.log.GateLog.{GateLog}
use Rattle.salt_stands.specs.CoordinatorLog.{Told, hear, heard}
use Rattle.std.proofs.Common.{IsTrue, List, None, Option, Some, [], ap, arith, drop, false, refl, slice_get, suc, sym, take, take-append-drop, true, zero, ℕ, ◌++◌, ◌+◌, ◌≡◌, ◌≤◌, ◌∙◌, ◌∷◌}
use Rattle.std.proofs.lemmas.List.{take_all}

pub push_take : {A : Type 0} (xs : List A) (k : ℕ) (x : A) → Some x ≡ slice_get xs k → take k xs ++ x ∷ [] ≡ take (k + 1) xs
push_take [] k x e = cc
push_take (y ∷ xs) zero x e = ap (λ z. z ∷ []) same
  where
    same : x ≡ y
    same = cc
push_take (y ∷ xs) (suc k) x e =
    let same : suc (k + 1) ≡ suc k + 1 = omega arith in
    ap (λ l. y ∷ l) (push_take xs k x e) ∙ ap (λ n. take n (y ∷ xs)) same

-- behind the first, with one more
push_behind : {A : Type 0} (xs : List A) (i : ℕ) (x : A) → 1 ≤ i → Some x ≡ slice_get xs i → drop 1 (take i xs) ++ x ∷ [] ≡ drop 1 (take (i + 1) xs)
push_behind xs zero x low e = absurd (omega (arith, low))
push_behind [] (suc k) x low e = cc
push_behind (y ∷ xs) (suc k) x low e =
    let same : suc (k + 1) ≡ suc k + 1 = omega arith in
    push_take xs k x e ∙ ap (λ n. drop 1 (take n (y ∷ xs))) same

-- and then the rest
all_behind : {A : Type 0} (xs : List A) (i : ℕ) → 1 ≤ i → drop 1 xs ≡ drop 1 (take i xs) ++ drop i xs
all_behind xs zero low = absurd (omega (arith, low))
all_behind [] (suc k) low = refl
all_behind (y ∷ xs) (suc k) low = sym (take-append-drop k xs)

heard_append : (parts : ℕ) (o : Option Told) (ps qs : List (List ℕ)) → heard parts o (ps ++ qs) ≡ heard parts (heard parts o ps) qs
heard_append parts o [] qs = refl
heard_append parts o (p ∷ ps) qs = heard_append parts (hear parts p o) ps qs

heard_none : (parts : ℕ) (ps : List (List ℕ)) → heard parts None ps ≡ None
heard_none parts [] = refl
heard_none parts (p ∷ ps) = heard_none parts ps

-- the payloads behind the first, up to this one, were heard
pub record IsHeardTo (d : View) (gate : GateLog) (parts : ℕ) (t : Told) (said : Said) (i : ℕ) : Type 0 where
  pub payloads : List (List ℕ)
  pub now : Told
  pub is_heard : heard parts (Some t) payloads ≡ Some now
  pub says : SaysTold said now
  pub stand : (entries : List (List ℕ)) → IsLog d gate entries → IsTrue d.told → payloads ≡ drop 1 (take i entries)

-- how far the reading of a log has come
pub record HearsSoFar (d0 d : View) (gate0 gate : GateLog) (parts : ℕ) (said0 said : Said) (i : ℕ) : Type 0 where
  pub first : 1 ≤ i
  pub keeps : KeepsAll d0 d None
  pub cause : HasCause d0 d None
  pub same : HasMoved gate0 gate
  pub logs : (entries : List (List ℕ)) → IsLog d0 gate0 entries → IsLog d gate entries
  pub hears : (t : Told) → SaysTold said0 t → IsHeardTo d0 gate0 parts t said i

pub keeps_itself : (d : View) → KeepsAll d d None
keeps_itself d = record { shape = same_shape d; kept = λ dev none. record { bytes = refl; images = λ c left. left }; images = λ dev none c left. left }

first_none : {A : Type 0} (xs : List A) → [] ≡ drop 1 (take 1 xs)
first_none [] = refl
first_none (x ∷ xs) = refl

pub starts : (d : View) (gate : GateLog) (parts : ℕ) (said : Said) → HearsSoFar d d gate gate parts said said 1
starts d gate parts said = record {
  first = omega arith;
  keeps = keeps_itself d;
  cause = cause_none d;
  same = record { device = refl; gate = refl; count = refl };
  logs = λ entries is. is;
  hears = λ t h. record { payloads = []; now = t; is_heard = refl; says = h; stand = λ entries is told. first_none entries };
}

module _ (d0 d : View) (gate0 gate : GateLog) (parts : ℕ) (said0 said : Said) (i : ℕ) (h : HearsSoFar d0 d gate0 gate parts said0 said i) where
  told_now : IsTrue d0.told → IsTrue d.told
  told_now told = h.keeps.shape.told ∙ told

  one_more : (t : Told) (so_far : IsHeardTo d0 gate0 parts t said i) (more : Said) → HearsOne d gate parts so_far.now more i true → IsHeardTo d0 gate0 parts t more (i + 1)
  one_more t so_far more one = record {
    payloads = so_far.payloads ++ one.payload ∷ [];
    now = one.is_heard.0;
    is_heard = heard_append parts (Some t) so_far.payloads (one.payload ∷ []) ∙ ap (hear parts one.payload) so_far.is_heard ∙ one.is_heard.1.0;
    says = one.is_heard.1.1;
    stand = λ entries is told. ap (λ l. l ++ one.payload ∷ []) (so_far.stand entries is told) ∙ push_behind entries i one.payload h.first (one.stands entries (h.logs entries is) (told_now told));
  }

  -- one entry further
  pub hears_on : (e : View) (gate' : GateLog) (more : Said) → KeepsAll d e None → HasCause d e None → HasMoved gate gate' → ((entries : List (List ℕ)) → IsLog d gate entries → IsLog e gate' entries)
      → ((t : Told) → SaysTold said t → HearsOne d gate parts t more i true) → HearsSoFar d0 e gate0 gate' parts said0 more (i + 1)
  hears_on e gate' more keeps cause moved logs hears = record {
    first = omega (arith, h.first);
    keeps = keeps_then d0 d e None h.keeps keeps;
    cause = cause_on d0 d e None h.cause cause;
    same = record { device = moved.device ∙ h.same.device; gate = moved.gate ∙ h.same.gate; count = moved.count ∙ h.same.count };
    logs = λ entries is. logs entries (h.logs entries is);
    hears = λ t says. let so_far = h.hears t says in one_more t so_far more (hears so_far.now so_far.says);
  }

  -- one that does not follow on
  pub hears_none : (more : Said) → ((t : Told) → SaysTold said t → HearsOne d gate parts t more i false) → (t : Told) → SaysTold said0 t → HearsAll d0 gate0 parts t more false
  hears_none more hears t says entries is told =
      let so_far = h.hears t says in
      let one = hears so_far.now so_far.says in
      let here = push_behind entries i one.payload h.first (one.stands entries (h.logs entries is) (told_now told)) in
      ap (heard parts (Some t)) (all_behind entries (i + 1) (omega arith) ∙ ap (λ l. l ++ drop (i + 1) entries) (sym here ∙ ap (λ l. l ++ one.payload ∷ []) (sym (so_far.stand entries is told))))
      ∙ heard_append parts (Some t) (so_far.payloads ++ one.payload ∷ []) (drop (i + 1) entries)
      ∙ ap (λ o. heard parts o (drop (i + 1) entries)) (heard_append parts (Some t) so_far.payloads (one.payload ∷ []) ∙ ap (hear parts one.payload) so_far.is_heard ∙ one.is_heard)
      ∙ heard_none parts (drop (i + 1) entries)

  -- all were heard
  pub hears_all : count_of gate0 ≤ i → (t : Told) → SaysTold said0 t → HearsAll d0 gate0 parts t said true
  hears_all end t says =
      let so_far = h.hears t says in
      record {
        payloads = so_far.payloads;
        now = so_far.now;
        is_heard = so_far.is_heard;
        says = so_far.says;
        stand = λ entries is told. so_far.stand entries is told ∙ ap (drop 1) (take_all i entries (omega (arith, end, is.count)));
      }
