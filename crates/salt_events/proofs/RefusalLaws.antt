-- Refusals, read and back.
use Rattle.salt_ast.specs.Limits.{limit_word}
use Rattle.salt_ast.specs.ProgramTexts.{base_text, id_text}
use Rattle.salt_ast.specs.declared.limit.LimitName.TheVariants as limit
use Rattle.salt_ast.specs.declared.limit.LimitName.{LimitName}
use Rattle.salt_events.proofs.NameLaws.{IsNameFront, name_back, name_read}
use Rattle.salt_events.proofs.Numbers.{IsId, behind_back, id_back, id_read, map_if, then_if}
use Rattle.salt_events.proofs.PartLaws.{IsWhole, either_if, map_some, number_whole, whole_back, word_if}
use Rattle.salt_events.specs.Fronts.{behind, id_at}
use Rattle.salt_events.specs.Names.{name_at}
use Rattle.salt_events.specs.Reading.{if_empty, number_in}
use Rattle.salt_events.specs.Refusing.{all_limits, base_in, branch_in, branch_of, exists_in, id_in, limit_in, name_in, plain_refusal_in, refusal_in, unknown_in}
use Rattle.salt_model.specs.EventTexts.{refusal_text}
use Rattle.salt_model.specs.Naming.{IsName}
use Rattle.salt_model.specs.Printable.{IsPrintableRefusal}
use Rattle.salt_model.specs.Sized.{IsSizedId}
use Rattle.salt_model.specs.declared.events.Refusal.TheVariants as refused
use Rattle.salt_model.specs.declared.events.Refusal.{Refusal}
use Rattle.salt_values.specs.declared.id.Id.{Id}
use Rattle.salt_values.specs.declared.limits.TheConstants.{PARTS_MOST}
use Rattle.std.proofs.Common.{Bool, IfSome, List, None, Option, Some, [], ap, append-nil, arith, codes, false, inl, inr, is_some, nat_le, option_map, refl, subst, sym, true, ℕ, ◌&&◌, ◌++◌, ◌∙◌, ◌∷◌, ◌≡◌, ◌≤◌, ◌||◌}
use Rattle.std.proofs.lemmas.Bool.Decides.{nat_tests}
use Rattle.std.specs.Bool.{then_some}
use Rattle.std.specs.Fmt.{decimal}
use Rattle.std.specs.Prelude.{find}
use Rattle.salt_ast.specs.TokenSpelling.{same_bytes}

limit_read : (l : LimitName) → limit_in (limit_word l) ≡ Some l
limit_read limit.Session = refl
limit_read limit.Name = refl
limit_read limit.Number = refl
limit_read limit.Text = refl
limit_read limit.Tables = refl
limit_read limit.Columns = refl
limit_read limit.Checks = refl
limit_read limit.Programs = refl
limit_read limit.Parts = refl
limit_read limit.Retry = refl
limit_read limit.Statements = refl
limit_read limit.Parameters = refl
limit_read limit.Variables = refl
limit_read limit.Depth = refl
limit_read limit.Crash = refl
limit_read limit.Pick = refl
limit_read limit.Pairs = refl
limit_read limit.Net = refl
limit_read limit.Act = refl
limit_read limit.Bases = refl

limit_among : (bytes : List ℕ) (limits : List LimitName) → IfSome (find (λ l. same_bytes bytes (limit_word l)) limits) (λ l. bytes ≡ limit_word l)
limit_among bytes [] = tt
limit_among bytes (l ∷ limits) = word_if bytes (limit_word l) l (find (λ m. same_bytes bytes (limit_word m)) limits) (λ m. bytes ≡ limit_word m) (λ e. e) (limit_among bytes limits)

limit_back : (bytes : List ℕ) → IfSome (limit_in bytes) (λ l. bytes ≡ limit_word l)
limit_back bytes = limit_among bytes all_limits

-- NAMES

name_whole : (n : List ℕ) → IsName n → name_in n ≡ Some n
name_whole n h = let front : name_at n ≡ Some (n, []) = subst (λ l. name_at l ≡ Some (n, [])) (append-nil n) (name_read n [] h tt) in rw front refl

name_end : (bytes n x : List ℕ) → IsNameFront bytes n x → IfSome (if_empty n x) (λ m. IsName bytes)
name_end bytes n [] h = subst IsName (sym (h.text ∙ append-nil n)) h.name
name_end bytes n (b ∷ bs) h = tt

name_in_back : (bytes : List ℕ) → IfSome (name_in bytes) (λ m. IsName bytes)
name_in_back bytes = then_if (name_at bytes) (λ r. if_empty r.0 r.1) (λ r. IsNameFront bytes r.0 r.1) (λ m. IsName bytes) (name_back bytes) (λ r h. name_end bytes r.0 r.1 h)

id_whole : (u : Id) → IsSizedId u → id_in (id_text u) ≡ Some u
id_whole u h = let front : id_at (id_text u) ≡ Some (u, []) = subst (λ l. id_at l ≡ Some (u, [])) (append-nil (id_text u)) (id_read u [] h tt) in rw front refl

abbrev IsWholeId : List ℕ → Id → Type 0
IsWholeId bytes u = (bytes ≡ id_text u) × IsSizedId u

id_end : (bytes : List ℕ) (u : Id) (x : List ℕ) → IsId bytes u x → IfSome (if_empty u x) (IsWholeId bytes)
id_end bytes u [] h = (h.text ∙ append-nil (id_text u), h.sized)
id_end bytes u (b ∷ bs) h = tt

id_in_back : (bytes : List ℕ) → IfSome (id_in bytes) (IsWholeId bytes)
id_in_back bytes = then_if (id_at bytes) (λ r. if_empty r.0 r.1) (λ r. IsId bytes r.0 r.1) (IsWholeId bytes) (id_back bytes) (λ r h. id_end bytes r.0 r.1 h)

abbrev IsWholeBase : List ℕ → Id → Type 0
IsWholeBase bytes b = IsSizedId b × (bytes ≡ base_text b)

base_in_back : (bytes : List ℕ) → IfSome (base_in bytes) (IsWholeBase bytes)
base_in_back bytes =
    then_if (behind (codes "b") bytes) id_in (λ x. bytes ≡ codes "b" ++ x) (IsWholeBase bytes) (behind_back (codes "b") bytes)
    (λ x e. map_some (id_in x) (IsWholeId x) (IsWholeBase bytes) (id_in_back x) (λ u h. (h.1, e ∙ ap (λ l. codes "b" ++ l) h.0)))

-- REFUSALS

or_true : (t : Bool) → (t || true) ≡ true
or_true true = refl
or_true false = refl

within : (n : ℕ) → 1 ≤ n → n ≤ PARTS_MOST → (nat_le 1 n && nat_le n PARTS_MOST) ≡ true
within n a b = let t : nat_le 1 n ≡ true = grind (arith, nat_tests) in let u : nat_le n PARTS_MOST ≡ true = grind (arith, nat_tests) in rw t (rw u refl)

unknown_read : (n : List ℕ) → IsPrintableRefusal (refused.Unknown n) → unknown_in n ≡ Some (refused.Unknown n)
unknown_read n (inl h) = rw (name_whole n h) refl
unknown_read n (inr h) =
    let base : base_in n ≡ Some h.0 = subst (λ l. base_in l ≡ Some h.0) (sym h.2) (id_whole h.0 h.1) in rw base (rw (or_true (is_some (name_in n))) refl)

pub refusal_read : (r : Refusal) → IsPrintableRefusal r → refusal_in (refusal_text r) ≡ Some r
refusal_read refused.Long p = refl
refusal_read refused.Byte p = refl
refusal_read refused.Syntax p = refl
refusal_read (refused.Limit l) p = ap (option_map refused.Limit) (limit_read l)
refusal_read (refused.Unknown n) p = unknown_read n p
refusal_read (refused.Exists n) p = rw (name_whole n p) refl
refusal_read refused.Mistyped p = refl
refusal_read (refused.Branch n) p = let small : n ≤ 32 = p.1 in rw (number_whole n (omega (arith, small))) (rw (within n p.0 p.1) refl)
refusal_read refused.State p = refl
refusal_read refused.Busy p = refl

pub record IsRefusal (bytes : List ℕ) (r : Refusal) : Type 0 where
  pub text : bytes ≡ refusal_text r
  pub form : IsPrintableRefusal r

unknown_back : (bytes x : List ℕ) → bytes ≡ codes "5 unknown " ++ x → IfSome (unknown_in x) (IsRefusal bytes)
unknown_back bytes x e = go (name_in x) (name_in_back x) (base_in x) (base_in_back x)
  where
    go : (o : Option (List ℕ)) → IfSome o (λ m. IsName x) → (q : Option Id) → IfSome q (IsWholeBase x) →
        IfSome (then_some (is_some o || is_some q) (refused.Unknown x)) (IsRefusal bytes)
    go (Some n) h q k = record { text = e; form = inl h }
    go None h (Some b) k = record { text = e; form = inr (b, k.0, k.1) }
    go None h None k = tt

exists_back : (bytes x : List ℕ) → bytes ≡ codes "6 exists " ++ x → IfSome (exists_in x) (IsRefusal bytes)
exists_back bytes x e = go (name_in x) (name_in_back x)
  where
    go : (o : Option (List ℕ)) → IfSome o (λ m. IsName x) → IfSome (then_some (is_some o) (refused.Exists x)) (IsRefusal bytes)
    go (Some n) h = record { text = e; form = h }
    go None h = tt

branch_of_back : (bytes : List ℕ) (n : ℕ) → bytes ≡ codes "8 branch " ++ decimal n → IfSome (branch_of n) (IsRefusal bytes)
branch_of_back bytes n e = go (nat_le 1 n) refl (nat_le n PARTS_MOST) refl
  where
    go : (s : Bool) → nat_le 1 n ≡ s → (t : Bool) → nat_le n PARTS_MOST ≡ t → IfSome (then_some (s && t) (refused.Branch n)) (IsRefusal bytes)
    go true h true k = record { text = e; form = (grind (arith, nat_tests), grind (arith, nat_tests)) }
    go true h false k = tt
    go false h t k = tt

plain_back : (bytes : List ℕ) → IfSome (plain_refusal_in bytes) (IsRefusal bytes)
plain_back bytes =
    word_if bytes (codes "1 long") refused.Long _ (IsRefusal bytes) (λ e. record { text = e; form = tt })
    (word_if bytes (codes "2 byte") refused.Byte _ (IsRefusal bytes) (λ e. record { text = e; form = tt })
    (word_if bytes (codes "3 syntax") refused.Syntax _ (IsRefusal bytes) (λ e. record { text = e; form = tt })
    (word_if bytes (codes "7 type") refused.Mistyped _ (IsRefusal bytes) (λ e. record { text = e; form = tt })
    (word_if bytes (codes "9 state") refused.State _ (IsRefusal bytes) (λ e. record { text = e; form = tt })
    (word_if bytes (codes "10 busy") refused.Busy None (IsRefusal bytes) (λ e. record { text = e; form = tt }) tt)))))

pub refusal_back : (bytes : List ℕ) → IfSome (refusal_in bytes) (IsRefusal bytes)
refusal_back bytes =
    either_if (behind (codes "4 limit ") bytes) (λ r. option_map refused.Limit (limit_in r)) _ (λ x. bytes ≡ codes "4 limit " ++ x) (IsRefusal bytes) (behind_back (codes "4 limit ") bytes)
    (λ x e. map_if (limit_in x) refused.Limit (λ l. x ≡ limit_word l) (IsRefusal bytes) (limit_back x) (λ l h. record { text = e ∙ ap (λ z. codes "4 limit " ++ z) h; form = tt }))
    (either_if (behind (codes "5 unknown ") bytes) unknown_in _ (λ x. bytes ≡ codes "5 unknown " ++ x) (IsRefusal bytes) (behind_back (codes "5 unknown ") bytes)
    (λ x e. unknown_back bytes x e)
    (either_if (behind (codes "6 exists ") bytes) exists_in _ (λ x. bytes ≡ codes "6 exists " ++ x) (IsRefusal bytes) (behind_back (codes "6 exists ") bytes)
    (λ x e. exists_back bytes x e)
    (either_if (behind (codes "8 branch ") bytes) branch_in (plain_refusal_in bytes) (λ x. bytes ≡ codes "8 branch " ++ x) (IsRefusal bytes) (behind_back (codes "8 branch ") bytes)
    (λ x e. then_if (number_in x) branch_of (IsWhole x) (IsRefusal bytes) (whole_back x) (λ n h. branch_of_back bytes n (e ∙ ap (λ z. codes "8 branch " ++ z) h.0))) (plain_back bytes))))
