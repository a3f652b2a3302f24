-- Whose units begin, read and back.
use Rattle.salt_ast.specs.ProgramTexts.{base_text, call_text, id_text, row_text}
use Rattle.salt_events.proofs.NameLaws.{IsNameFront, name_back, name_read}
use Rattle.salt_events.proofs.Numbers.{IsId, IsNumber, behind_back, id_back, id_read, map_if, number_back, number_read, then_if}
use Rattle.salt_events.proofs.PartLaws.{IsWhole, below_back, below_read, either_if, map_some, number_whole, whole_back}
use Rattle.salt_events.proofs.ValueLaws.{IsRowFront, row_back, row_read}
use Rattle.salt_events.specs.Fronts.{behind, id_at, number_at}
use Rattle.salt_events.specs.Names.{name_at}
use Rattle.salt_events.specs.Reading.{call_in, first_in, if_below, if_empty, kind_in, later_in, number_in, of_session, part_in, session_at, session_kind_in}
use Rattle.salt_events.specs.Values.{row_at}
use Rattle.salt_model.specs.EventTexts.{kind_text}
use Rattle.salt_model.specs.Naming.{IsName}
use Rattle.salt_model.specs.Printable.{IsPrintableKind}
use Rattle.salt_model.specs.Sized.{IsSized, IsSizedKind, IsSizedRow}
use Rattle.salt_model.specs.declared.events.UnitKind.TheVariants as kind
use Rattle.salt_model.specs.declared.events.UnitKind.{UnitKind}
use Rattle.salt_values.specs.declared.value.Value.{Value}
use Rattle.std.proofs.Common.{IfSome, List, None, Some, [], ap, append-nil, arith, codes, option_and_then, option_map, refl, subst, ℕ, ◌++◌, ◌<◌, ◌^◌, ◌∙◌, ◌∷◌, ◌≡◌}
use Rattle.std.specs.Fmt.{decimal}

-- CALLS

call_read : (n : List ℕ) (args : List Value) → IsName n → IsSizedRow args → call_in (call_text n args) ≡ Some (n, args)
call_read n args h g =
    let row : row_at (row_text args) ≡ Some (args, []) = subst (λ l. row_at l ≡ Some (args, [])) (append-nil (row_text args)) (row_read args [] g) in
    rw (name_read n (row_text args) h refl) (rw row refl)

pub record IsCall (bytes : List ℕ) (c : List ℕ × List Value) : Type 0 where
  pub text : bytes ≡ call_text c.0 c.1
  pub name : IsName c.0
  pub args : IsSizedRow c.1

call_end : (bytes n : List ℕ) (args : List Value) (x : List ℕ) → bytes ≡ n ++ (row_text args ++ x) → IsName n → IsSizedRow args → IfSome (if_empty (n, args) x) (IsCall bytes)
call_end bytes n args [] e h g = record { text = e ∙ ap (λ l. n ++ l) (append-nil (row_text args)); name = h; args = g }
call_end bytes n args (b ∷ bs) e h g = tt

call_back : (bytes : List ℕ) → IfSome (call_in bytes) (IsCall bytes)
call_back bytes =
    then_if (name_at bytes) (λ n. option_and_then (λ r. if_empty (n.0, r.0) r.1) (row_at n.1)) (λ n. IsNameFront bytes n.0 n.1) (IsCall bytes) (name_back bytes)
    (λ n h. then_if (row_at n.1) (λ r. if_empty (n.0, r.0) r.1) (IsRowFront n.1) (IsCall bytes) (row_back n.1)
    (λ r g. call_end bytes n.0 r.0 r.1 (h.text ∙ ap (λ l. n.0 ++ l) g.0) h.name g.1))

-- KINDS

-- behind `began`
abbrev pub kind_part : UnitKind → List ℕ
kind_part (kind.Acid s) = codes "@" ++ decimal s
kind_part (kind.Call s n args) = codes "@" ++ (decimal s ++ (codes " call " ++ call_text n args))
kind_part (kind.First s b n args) = codes "@" ++ (decimal s ++ (codes " " ++ (base_text b ++ (codes " part 1 of " ++ call_text n args))))
kind_part (kind.Later b part) = codes "b" ++ (id_text b ++ (codes " part " ++ decimal part))

pub kind_line : (k : UnitKind) → kind_text k ≡ codes " began " ++ kind_part k
kind_line (kind.Acid s) = refl
kind_line (kind.Call s n args) = refl
kind_line (kind.First s b n args) = refl
kind_line (kind.Later b part) = refl

part_read : (n : ℕ) → n < 2 ^ 32 → part_in (decimal n) ≡ Some n
part_read n h = rw (number_whole n (omega arith)) (below_read (2 ^ 32) n h)

session_front : (s : ℕ) → s < 2 ^ 8 → number_at (decimal s) ≡ Some (s, [])
session_front s h = subst (λ l. number_at l ≡ Some (s, [])) (append-nil (decimal s)) (number_read s [] (omega arith) tt)

-- eight bits are fewer than 64
below_wide : (s : ℕ) → s < 2 ^ 8 → s < 2 ^ 64
below_wide s h = omega arith

pub kind_read : (k : UnitKind) → IsPrintableKind k → IsSizedKind k → kind_in (kind_part k) ≡ Some k
kind_read (kind.Acid s) p g = rw (session_front s g) (rw (below_read (2 ^ 8) s g) refl)
kind_read (kind.Call s n args) p g =
    rw (number_read s (codes " call " ++ call_text n args) (below_wide s g.0) refl) (rw (below_read (2 ^ 8) s g.0) (ap (option_map (λ c. kind.Call s c.0 c.1)) (call_read n args p g.1)))
kind_read (kind.First s b n args) p g =
    rw (number_read s (codes " " ++ (base_text b ++ (codes " part 1 of " ++ call_text n args))) (below_wide s g.0) refl) (rw (below_read (2 ^ 8) s g.0)
    (rw (id_read b (codes " part 1 of " ++ call_text n args) g.1 refl) (ap (option_map (λ c. kind.First s b c.0 c.1)) (call_read n args p g.2))))
kind_read (kind.Later b part) p g = rw (id_read b (codes " part " ++ decimal part) g.0 refl) (ap (option_map (λ n. kind.Later b n)) (part_read part g.1))

pub record IsKind (bytes : List ℕ) (k : UnitKind) : Type 0 where
  pub text : bytes ≡ kind_part k
  pub form : IsPrintableKind k
  pub sized : IsSizedKind k

first_back : (bytes x : List ℕ) (s : ℕ) → s < 2 ^ 8 → bytes ≡ codes "@" ++ (decimal s ++ (codes " b" ++ x)) → IfSome (first_in s x) (IsKind bytes)
first_back bytes x s h e =
    then_if (id_at x) (λ b. option_map (λ c. kind.First s b.0 c.0 c.1) (option_and_then call_in (behind (codes " part 1 of ") b.1))) (λ b. IsId x b.0 b.1) (IsKind bytes) (id_back x)
    (λ b u. map_if (option_and_then call_in (behind (codes " part 1 of ") b.1)) (λ c. kind.First s b.0 c.0 c.1)
    (λ c. (b.1 ≡ codes " part 1 of " ++ call_text c.0 c.1) × IsName c.0 × IsSizedRow c.1) (IsKind bytes)
    (then_if (behind (codes " part 1 of ") b.1) call_in (λ y. b.1 ≡ codes " part 1 of " ++ y) (λ c. (b.1 ≡ codes " part 1 of " ++ call_text c.0 c.1) × IsName c.0 × IsSizedRow c.1)
    (behind_back (codes " part 1 of ") b.1)
    (λ y f. map_some (call_in y) (IsCall y) (λ c. (b.1 ≡ codes " part 1 of " ++ call_text c.0 c.1) × IsName c.0 × IsSizedRow c.1) (call_back y)
    (λ c g. (f ∙ ap (λ l. codes " part 1 of " ++ l) g.text, g.name, g.args))))
    (λ c g. record {
      text = e ∙ ap (λ l. codes "@" ++ (decimal s ++ (codes " b" ++ l))) (u.text ∙ ap (λ l. id_text b.0 ++ l) g.0);
      form = g.1;
      sized = (h, u.sized, g.2);
    }))

of_session_back : (bytes x : List ℕ) (s : ℕ) → s < 2 ^ 8 → bytes ≡ codes "@" ++ (decimal s ++ x) → IfSome (of_session s x) (IsKind bytes)
of_session_back bytes [] s h e = record { text = e ∙ ap (λ l. codes "@" ++ l) (append-nil (decimal s)); form = tt; sized = h }
of_session_back bytes (b ∷ x) s h e =
    either_if (behind (codes " call ") (b ∷ x)) (λ r. option_map (λ c. kind.Call s c.0 c.1) (call_in r)) _ (λ y. b ∷ x ≡ codes " call " ++ y) (IsKind bytes)
    (behind_back (codes " call ") (b ∷ x))
    (λ y f. map_if (call_in y) (λ c. kind.Call s c.0 c.1) (IsCall y) (IsKind bytes) (call_back y)
    (λ c g. record { text = e ∙ ap (λ l. codes "@" ++ (decimal s ++ l)) (f ∙ ap (λ l. codes " call " ++ l) g.text); form = g.name; sized = (h, g.args) }))
    (either_if (behind (codes " b") (b ∷ x)) (first_in s) None (λ y. b ∷ x ≡ codes " b" ++ y) (IsKind bytes) (behind_back (codes " b") (b ∷ x))
    (λ y f. first_back bytes y s h (e ∙ ap (λ l. codes "@" ++ (decimal s ++ l)) f)) tt)

session_back : (bytes x : List ℕ) → bytes ≡ codes "@" ++ x → IfSome (session_kind_in x) (IsKind bytes)
session_back bytes x e =
    then_if (session_at x) (λ r. of_session r.0 r.1) (λ r. (x ≡ decimal r.0 ++ r.1) × (r.0 < 2 ^ 8)) (IsKind bytes)
    (then_if (number_at x) (λ r. option_map (λ s. (s, r.1)) (if_below (2 ^ 8) r.0)) (λ r. IsNumber x r.0 r.1) (λ r. (x ≡ decimal r.0 ++ r.1) × (r.0 < 2 ^ 8)) (number_back x)
    (λ r n. map_if {B = ℕ × List ℕ} (if_below (2 ^ 8) r.0) (λ s. (s, r.1)) (λ s. (x ≡ decimal s ++ r.1) × (s < 2 ^ 8)) (λ q. (x ≡ decimal q.0 ++ q.1) × (q.0 < 2 ^ 8))
    (below_back (2 ^ 8) r.0 (λ s. x ≡ decimal s ++ r.1) n.text) (λ s f. f)))
    (λ r f. of_session_back bytes r.1 r.0 f.1 (e ∙ ap (λ l. codes "@" ++ l) f.0))

later_back : (bytes x : List ℕ) → bytes ≡ codes "b" ++ x → IfSome (later_in x) (IsKind bytes)
later_back bytes x e =
    then_if (id_at x) (λ r. option_map (λ part. kind.Later r.0 part) (option_and_then part_in (behind (codes " part ") r.1))) (λ r. IsId x r.0 r.1) (IsKind bytes) (id_back x)
    (λ r u. map_if (option_and_then part_in (behind (codes " part ") r.1)) (λ part. kind.Later r.0 part)
    (λ n. (r.1 ≡ codes " part " ++ decimal n) × IsSized n × (n < 2 ^ 32)) (IsKind bytes)
    (then_if (behind (codes " part ") r.1) part_in (λ y. r.1 ≡ codes " part " ++ y) (λ n. (r.1 ≡ codes " part " ++ decimal n) × IsSized n × (n < 2 ^ 32))
    (behind_back (codes " part ") r.1)
    (λ y f. then_if (number_in y) (if_below (2 ^ 32)) (IsWhole y) (λ n. (r.1 ≡ codes " part " ++ decimal n) × IsSized n × (n < 2 ^ 32)) (whole_back y)
    (λ n h. map_some (if_below (2 ^ 32) n) (λ m. IsWhole y m × (m < 2 ^ 32)) (λ m. (r.1 ≡ codes " part " ++ decimal m) × IsSized m × (m < 2 ^ 32))
    (below_back (2 ^ 32) n (IsWhole y) h) (λ m g. (f ∙ ap (λ l. codes " part " ++ l) g.0.0, g.0.1, g.1)))))
    (λ n h. record { text = e ∙ ap (λ l. codes "b" ++ l) (u.text ∙ ap (λ l. id_text r.0 ++ l) h.0); form = tt; sized = (u.sized, h.2) }))

pub kind_back : (bytes : List ℕ) → IfSome (kind_in bytes) (IsKind bytes)
kind_back bytes =
    either_if (behind (codes "@") bytes) session_kind_in _ (λ x. bytes ≡ codes "@" ++ x) (IsKind bytes) (behind_back (codes "@") bytes)
    (λ x e. session_back bytes x e)
    (either_if (behind (codes "b") bytes) later_in None (λ x. bytes ≡ codes "b" ++ x) (IsKind bytes) (behind_back (codes "b") bytes)
    (λ x e. later_back bytes x e) tt)
