-- The parts of events that end at the end of a line.
use Rattle.salt_ast.specs.ProgramTexts.{base_text, call_text}
use Rattle.salt_ast.specs.Texts.{between_commas, value_text}
use Rattle.salt_model.specs.EventTexts.{answer_text, cause_text, cell_text, end_text, kind_text, place_text, range_text, refusal_text}
use Rattle.salt_model.specs.Naming.{IsName}
use Rattle.salt_model.specs.Printable.{IsPrintableKind, IsPrintableRefusal}
use Rattle.salt_model.specs.declared.events.Answer.TheVariants as answer
use Rattle.salt_model.specs.declared.events.End.TheVariants as end
use Rattle.salt_model.specs.declared.events.Refusal.TheVariants as refused
use Rattle.salt_model.specs.declared.events.UnitKind.TheVariants as kind
use Rattle.salt_model.specs.declared.events.UnitKind.{UnitKind}
use Rattle.salt_model.specs.declared.shown.BaseAt.TheVariants as place
use Rattle.law_texts.proofs.Clear.{Stops, TellsLine, differ, each_one, first}
use Rattle.law_texts.specs.EventLines.{Inline}
use Rattle.law_texts.proofs.Inline.{base_inline, line_one, name_inline}
use Rattle.law_texts.proofs.Names.{name_clear}
use Rattle.law_texts.proofs.Numbers.{base_clear, decimal_clear, part_clear, byte_clear}
use Rattle.law_texts.proofs.Values.{number_begins, pos_sized, row_clear, value_begins, value_clear, values_one}
use Rattle.law_texts.proofs.Words.{cause_one, limit_one}
use Rattle.salt_model.specs.Sized.{IsSized, IsSizedAnswer, IsSizedEnd, IsSizedId, IsSizedKind, IsSizedPart, IsSizedPlace, IsSizedRow, IsSizedSession, IsValueIn}
use Rattle.salt_values.specs.declared.id.Id.{Id}
use Rattle.salt_values.specs.Value.{IsValue}
use Rattle.salt_values.specs.declared.limits.TheConstants.{PARTS_MOST}
use Rattle.salt_values.specs.declared.value.Value.TheVariants as value
use Rattle.salt_values.specs.declared.value.Value.{Value}
use Rattle.std.proofs.Common.{List, None, Option, Some, [], ap, append_assoc, arith, codes, decimal, drop, is_none, negsuc, pos, refl, subst, sym}
use Rattle.std.proofs.Common.{true≢false, ℕ, ◌++◌, ◌∙◌, ◌∷◌, ◌≡◌, ◌≤◌, ◌⊎◌, inl, inr}

-- a number at the end of a line
pub number_one : TellsLine IsSized decimal
number_one m n x y g h e = let r = decimal_clear.one m n (10 ∷ x) (10 ∷ y) g h refl refl e in (r.0, ap (drop 1) r.1)

session_one : TellsLine IsSizedSession decimal
session_one m n x y g h e = let r = byte_clear.one m n (10 ∷ x) (10 ∷ y) g h refl refl e in (r.0, ap (drop 1) r.1)

part_one : TellsLine IsSizedPart decimal
part_one m n x y g h e = let r = part_clear.one m n (10 ∷ x) (10 ∷ y) g h refl refl e in (r.0, ap (drop 1) r.1)

-- ---- kinds of units

pub call_one : (n m : List ℕ) (as_ bs : List Value) (x y : List ℕ) → IsName n → IsName m → IsSizedRow as_ → IsSizedRow bs →
    call_text n as_ ++ x ≡ call_text m bs ++ y → (n ≡ m) × (as_ ≡ bs) × (x ≡ y)
call_one n m xs ys x y g h s t e =
    let name = first name_clear n m (40 ∷ (between_commas value_text xs ++ 41 ∷ []))
    (40 ∷ (between_commas value_text ys ++ 41 ∷ [])) x y g h refl refl e in
    let bare : (between_commas value_text xs ++ 41 ∷ []) ++ x ≡ (between_commas value_text ys ++ 41 ∷ []) ++ y = ap (drop 1) name.1 in
    let args = values_one xs ys x y s t
    (sym (append_assoc (between_commas value_text xs) (41 ∷ []) x) ∙ bare ∙ append_assoc (between_commas value_text ys) (41 ∷ []) y) in
    (name.0, args.0, args.1)

-- two sessions in front of what differs
session_differs : (m n : ℕ) (x y : List ℕ) → IsSizedSession m → IsSizedSession n → Stops x → Stops y → decimal m ++ x ≡ decimal n ++ y → x ≡ y
session_differs m n x y g h s t e = (byte_clear.one m n x y g h s t e).1

call_part : List ℕ → List Value → List ℕ
call_part n args = codes " call " ++ call_text n args

first_part : Id → List ℕ → List Value → List ℕ
first_part b n args = codes " " ++ (base_text b ++ (codes " part 1 of " ++ call_text n args))

pub kind_one : (a b : UnitKind) (x y : List ℕ) → IsPrintableKind a → IsPrintableKind b → IsSizedKind a → IsSizedKind b →
    kind_text a ++ (10 ∷ x) ≡ kind_text b ++ (10 ∷ y) → (a ≡ b) × (x ≡ y)
unfolding call_part first_part
kind_one (kind.Acid s) (kind.Acid t) x y g h p q e = let r = session_one s t x y p q (ap (drop 8) e) in (ap kind.Acid r.0, r.1)
kind_one (kind.Acid s) (kind.Call t m bs) x y g h p q e =
    let bare = ap (drop 8) e ∙ append_assoc (decimal t) (call_part m bs) (10 ∷ y) in
    absurd (differ _ _ (session_differs s t (10 ∷ x) (call_part m bs ++ (10 ∷ y)) p q.0 refl refl bare) refl)
kind_one (kind.Acid s) (kind.First t b m bs) x y g h p q e =
    let bare = ap (drop 8) e ∙ append_assoc (decimal t) (first_part b m bs) (10 ∷ y) in
    absurd (differ _ _ (session_differs s t (10 ∷ x) (first_part b m bs ++ (10 ∷ y)) p q.0 refl refl bare) refl)
kind_one (kind.Call s n as_) (kind.Acid t) x y g h p q e =
    let bare = sym (append_assoc (decimal s) (call_part n as_) (10 ∷ x)) ∙ ap (drop 8) e in
    absurd (differ _ _ (session_differs s t (call_part n as_ ++ (10 ∷ x)) (10 ∷ y) p.0 q refl refl bare) refl)
kind_one (kind.Call s n as_) (kind.Call t m bs) x y g h p q e =
    let r = first byte_clear s t (call_part n as_) (call_part m bs) (10 ∷ x) (10 ∷ y) p.0 q.0 refl refl (ap (drop 8) e) in
    let c = call_one n m as_ bs (10 ∷ x) (10 ∷ y) g h p.1 q.1 (ap (drop 6) r.1) in
    ((λ i. kind.Call (r.0 i) (c.0 i) (c.1 i)), ap (drop 1) c.2)
kind_one (kind.Call s n as_) (kind.First t b m bs) x y g h p q e =
    let r = first byte_clear s t (call_part n as_) (first_part b m bs) (10 ∷ x) (10 ∷ y) p.0 q.0 refl refl (ap (drop 8) e) in
    absurd (differ _ _ r.1 refl)
kind_one (kind.First s c n as_) (kind.Acid t) x y g h p q e =
    let bare = sym (append_assoc (decimal s) (first_part c n as_) (10 ∷ x)) ∙ ap (drop 8) e in
    absurd (differ _ _ (session_differs s t (first_part c n as_ ++ (10 ∷ x)) (10 ∷ y) p.0 q refl refl bare) refl)
kind_one (kind.First s c n as_) (kind.Call t m bs) x y g h p q e =
    let r = first byte_clear s t (first_part c n as_) (call_part m bs) (10 ∷ x) (10 ∷ y) p.0 q.0 refl refl (ap (drop 8) e) in
    absurd (differ _ _ r.1 refl)
kind_one (kind.First s c n as_) (kind.First t b m bs) x y g h p q e =
    let r = first byte_clear s t (first_part c n as_) (first_part b m bs) (10 ∷ x) (10 ∷ y) p.0 q.0 refl refl (ap (drop 8) e) in
    let base = first base_clear c b (codes " part 1 of " ++ call_text n as_) (codes " part 1 of " ++ call_text m bs) (10 ∷ x)
    (10 ∷ y) p.1 q.1 refl refl (ap (drop 1) r.1) in
    let c = call_one n m as_ bs (10 ∷ x) (10 ∷ y) g h p.2 q.2 (ap (drop 11) base.1) in
    ((λ i. kind.First (r.0 i) (base.0 i) (c.0 i) (c.1 i)), ap (drop 1) c.2)
kind_one (kind.Later c part) (kind.Later b number) x y g h p q e =
    let base = first base_clear c b (codes " part " ++ decimal part) (codes " part " ++ decimal number) (10 ∷ x) (10 ∷ y) p.0 q.0 refl refl
    (ap (drop 7) e) in
    let r = part_one part number x y p.1 q.1 (ap (drop 6) base.1) in
    ((λ i. kind.Later (base.0 i) (r.0 i)), r.1)
kind_one a b x y g h p q e = absurd (differ _ _ e refl)

-- ---- answers

-- a value is not `none`
value_no_none : (v : Value) (x y : List ℕ) → IsValue v → value_text v ++ x ≡ codes "none" ++ y → ⊥
value_no_none (value.Int (pos n)) x y g e = number_begins n 110 x _ (pos_sized n g) refl e
value_no_none (value.Int (negsuc n)) x y g e = differ _ _ e refl
value_no_none (value.Text t) x y g e = differ _ _ e refl
value_no_none value.Null x y g e = differ _ _ e refl

cell_one : TellsLine IsValueIn cell_text
cell_one None None x y g h e = (refl, ap (drop 5) e)
cell_one None (Some v) x y g h e = absurd (value_no_none v (10 ∷ y) (10 ∷ x) h (sym e))
cell_one (Some v) None x y g h e = absurd (value_no_none v (10 ∷ x) (10 ∷ y) g e)
cell_one (Some v) (Some w) x y g h e = let r = value_clear.one v w (10 ∷ x) (10 ∷ y) g h refl refl e in (ap Some r.0, ap (drop 1) r.1)

pub answer_one : TellsLine IsSizedAnswer answer_text
answer_one (answer.Count m) (answer.Count n) x y g h e = let r = number_one m n x y g h (ap (drop 6) e) in (ap answer.Count r.0, r.1)
answer_one (answer.Rows m) (answer.Rows n) x y g h e = let r =
    each_one row_clear 32 [] refl 10 (λ z. omega arith) refl m n x y g h (ap (drop 4) e) in (ap answer.Rows r.0, r.1)
answer_one (answer.Cell m) (answer.Cell n) x y g h e = let r = cell_one m n x y g h (ap (drop 6) e) in (ap answer.Cell r.0, r.1)
answer_one (answer.Stored m) (answer.Stored n) x y g h e = let r =
    value_clear.one m n (10 ∷ x) (10 ∷ y) g h refl refl (ap (drop 7) e) in (ap answer.Stored r.0, ap (drop 1) r.1)
answer_one answer.Held answer.Held x y g h e = (refl, ap (drop 5) e)
answer_one (answer.Failed m) (answer.Failed n) x y g h e = let r =
    cause_one m n (10 ∷ x) (10 ∷ y) (ap (drop 7) e) in (ap answer.Failed r.0, ap (drop 1) r.1)
answer_one a b x y g h e = absurd (differ _ _ e refl)

-- ---- ends

pub end_one : TellsLine IsSizedEnd end_text
end_one (end.Committed m) (end.Committed n) x y g h e = let r = number_one m n x y g h (ap (drop 11) e) in (ap end.Committed r.0, r.1)
end_one (end.Failed m) (end.Failed n) x y g h e = let r = cause_one m n (10 ∷ x) (10 ∷ y) (ap (drop 8) e) in (ap end.Failed r.0, ap (drop 1) r.1)
end_one (end.Branched m c) (end.Branched n d) x y g h e =
    let r = first decimal_clear m n (32 ∷ cause_text c) (32 ∷ cause_text d) (10 ∷ x) (10 ∷ y) g h refl refl (ap (drop 10) e) in
    let k = cause_one c d (10 ∷ x) (10 ∷ y) (ap (drop 1) r.1) in
    ((λ i. end.Branched (r.0 i) (k.0 i)), ap (drop 1) k.1)
end_one end.RolledBack end.RolledBack x y g h e = (refl, ap (drop 13) e)
end_one end.Victim end.Victim x y g h e = (refl, ap (drop 8) e)
end_one end.Cut end.Cut x y g h e = (refl, ap (drop 5) e)
end_one a b x y g h e = absurd (differ _ _ e refl)

-- ---- refusals

pub unknown_inline : (n : List ℕ) → IsName n ⊎ ((b : Id) × IsSizedId b × (n ≡ base_text b)) → Inline n
unknown_inline n (inl h) = name_inline n h
unknown_inline n (inr h) = subst Inline (sym h.2) (base_inline h.0)

part_sized : (n : ℕ) → (1 ≤ n) × (n ≤ PARTS_MOST) → IsSized n
part_sized n h = omega (arith, h)

pub refusal_one : TellsLine IsPrintableRefusal refusal_text
refusal_one refused.Long refused.Long x y g h e = (refl, ap (drop 7) e)
refusal_one refused.Byte refused.Byte x y g h e = (refl, ap (drop 7) e)
refusal_one refused.Syntax refused.Syntax x y g h e = (refl, ap (drop 9) e)
refusal_one (refused.Limit l) (refused.Limit m) x y g h e = let r =
    limit_one l m (10 ∷ x) (10 ∷ y) (ap (drop 8) e) in (ap refused.Limit r.0, ap (drop 1) r.1)
refusal_one (refused.Unknown n) (refused.Unknown m) x y g h e = let r =
    line_one n m x y (unknown_inline n g) (unknown_inline m h) (ap (drop 10) e) in (ap refused.Unknown r.0, r.1)
refusal_one (refused.Exists n) (refused.Exists m) x y g h e = let r =
    line_one n m x y (name_inline n g) (name_inline m h) (ap (drop 9) e) in (ap refused.Exists r.0, r.1)
refusal_one refused.Mistyped refused.Mistyped x y g h e = (refl, ap (drop 7) e)
refusal_one (refused.Branch n) (refused.Branch m) x y g h e = let r =
    number_one n m x y (part_sized n g) (part_sized m h) (ap (drop 9) e) in (ap refused.Branch r.0, r.1)
refusal_one refused.State refused.State x y g h e = (refl, ap (drop 8) e)
refusal_one refused.Busy refused.Busy x y g h e = (refl, ap (drop 8) e)
refusal_one a b x y g h e = absurd (differ _ _ e refl)

-- ---- parts of items

pub place_one : TellsLine IsSizedPlace place_text
place_one place.First place.First x y g h e = (refl, ap (drop 6) e)
place_one (place.Next m) (place.Next n) x y g h e = let r = part_one m n x y g h (ap (drop 5) e) in (ap place.Next r.0, r.1)
place_one place.Finished place.Finished x y g h e = (refl, ap (drop 9) e)
place_one a b x y g h e = absurd (differ _ _ e refl)

pub range_one : (lo hi low high : Option Value) (x y : List ℕ) → is_none lo ≡ is_none hi → is_none low ≡ is_none high → IsValueIn lo → IsValueIn hi →
    IsValueIn low → IsValueIn high → range_text lo hi ++ (10 ∷ x) ≡ range_text low high ++ (10 ∷ y) → (lo ≡ low) × (hi ≡ high) × (x ≡ y)
range_one None (Some v) low high x y g h a b c d e = absurd (true≢false g)
range_one (Some v) None low high x y g h a b c d e = absurd (true≢false (sym g))
range_one lo hi None (Some v) x y g h a b c d e = absurd (true≢false h)
range_one lo hi (Some v) None x y g h a b c d e = absurd (true≢false (sym h))
range_one None None None None x y g h a b c d e = (refl, refl, ap (drop 4) e)
range_one None None (Some v) (Some w) x y g h a b c d e = absurd
    (value_begins v 97 _ _ c refl (λ z. omega arith) (λ z. omega arith) (λ z. omega arith)
    (sym (append_assoc (value_text v) (46 ∷ 46 ∷ value_text w) (10 ∷ y)) ∙ sym e))
range_one (Some v) (Some w) None None x y g h a b c d e = absurd
    (value_begins v 97 _ _ a refl (λ z. omega arith) (λ z. omega arith) (λ z. omega arith)
    (sym (append_assoc (value_text v) (46 ∷ 46 ∷ value_text w) (10 ∷ x)) ∙ e))
range_one (Some v) (Some w) (Some p) (Some q) x y g h a b c d e =
    let low = first value_clear v p (46 ∷ 46 ∷ value_text w) (46 ∷ 46 ∷ value_text q) (10 ∷ x) (10 ∷ y) a c refl refl e in
    let high = value_clear.one w q (10 ∷ x) (10 ∷ y) b d refl refl (ap (drop 2) low.1) in
    (ap Some low.0, ap Some high.0, ap (drop 1) high.1)
