-- Continuations of which a front is replaced.
use Rattle.salt_stands.specs.OpenConts.{replace_cont}
use Rattle.salt_values.specs.Id.{is_same_id}
use Rattle.salt_values.specs.declared.cont.Cont.{Cont}
use Rattle.std.proofs.Common.{ap, arith, drop, length, sym, take}
use Rattle.std.specs.Prelude.{List, [], false, get_or, if◌then◌else◌, refl, set, suc, true, zero, ℕ, ◌++◌, ◌<◌, ◌∷◌, ◌≡◌, ◌≤◌}

abbrev pub replaced_to : Cont → ℕ → List Cont → List Cont
replaced_to c at cs = replace_cont c (take at cs) ++ drop at cs

pub replaced-length : (c : Cont) (at : ℕ) (cs : List Cont) → length (replaced_to c at cs) ≡ length cs
replaced-length c zero cs = refl
replaced-length c (suc at) [] = refl
replaced-length c (suc at) (d ∷ ds) = ap (λ n. suc n) (replaced-length c at ds)

-- at the place behind the front stands what stood there
pub replaced-at : (c : Cont) (at : ℕ) (cs : List Cont) (d : Cont) → at < length cs → get_or (replaced_to c at cs) at d ≡ get_or cs at d
replaced-at c zero cs d h = refl
replaced-at c (suc at) [] d h = absurd (omega arith)
replaced-at c (suc at) (e ∷ es) d h = replaced-at c at es d (omega arith)

pub replaced-same : (c : Cont) (at : ℕ) (cs : List Cont) (d : Cont) → at < length cs → is_same_id c.base (get_or cs at d).base ≡ true →
    set (replaced_to c at cs) at c ≡ replaced_to c (suc at) cs
replaced-same c zero [] d h same = absurd (omega arith)
replaced-same c zero (e ∷ es) d h same = ap (λ t. (if t then c else e) ∷ es) (sym same)
replaced-same c (suc at) [] d h same = absurd (omega arith)
replaced-same c (suc at) (e ∷ es) d h same = ap (λ l. (if is_same_id c.base e.base then c else e) ∷ l) (replaced-same c at es d (omega arith) same)

pub replaced-other : (c : Cont) (at : ℕ) (cs : List Cont) (d : Cont) → at < length cs → is_same_id c.base (get_or cs at d).base ≡ false →
    replaced_to c at cs ≡ replaced_to c (suc at) cs
replaced-other c zero [] d h other = absurd (omega arith)
replaced-other c zero (e ∷ es) d h other = ap (λ t. (if t then c else e) ∷ es) (sym other)
replaced-other c (suc at) [] d h other = absurd (omega arith)
replaced-other c (suc at) (e ∷ es) d h other = ap (λ l. (if is_same_id c.base e.base then c else e) ∷ l) (replaced-other c at es d (omega arith) other)

pub replaced-all : (c : Cont) (at : ℕ) (cs : List Cont) → length cs ≤ at → replaced_to c at cs ≡ replace_cont c cs
replaced-all c zero [] h = refl
replaced-all c zero (e ∷ es) h = absurd (omega arith)
replaced-all c (suc at) [] h = refl
replaced-all c (suc at) (e ∷ es) h = ap (λ l. (if is_same_id c.base e.base then c else e) ∷ l) (replaced-all c at es (omega arith))
