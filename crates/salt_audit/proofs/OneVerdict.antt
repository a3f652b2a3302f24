-- No bytes have two verdicts.
use Rattle.salt_ast.specs.declared.trees.TableDef.{TableDef}
use Rattle.salt_audit.proofs.Agreeing.{OneEvent, agree}
use Rattle.salt_audit.proofs.Clashing.{LinesAreWhole, are_lines, clash, item_ended, one_line}
use Rattle.salt_audit.proofs.Growing.{found_grows}
use Rattle.salt_audit.proofs.Naming.{Named, named_story, tables}
use Rattle.salt_audit.specs.Formed.{is_formed_by}
use Rattle.salt_audit.specs.Retelling.{retold, told, told_on}
use Rattle.salt_audit.specs.Stories.{IsFrontOf, then_on}
use Rattle.salt_audit.specs.Transcripts.{ArePrintableOn, BeginsWith, IsLeft, IsLongest, IsVerdict, all_told, breaks, is_unformed}
use Rattle.salt_audit.specs.Transcripts.{lines_of_events, lines_so_far, no_text, tables_told, text_on, text_so_far}
use Rattle.salt_audit.specs.Verdicts.{Break, Finding, broken, broken_by, found_by, found_in, found_on, sound, unformed}
use Rattle.salt_audit.specs.declared.verdict.Law.{Law}
use Rattle.salt_audit.specs.declared.verdict.Verdict.TheVariants.{Broken, NotText, Unformed, Yes}
use Rattle.salt_audit.specs.declared.verdict.Verdict.{Verdict}
use Rattle.salt_model.specs.EventTexts.{event_line, event_text, item_text}
use Rattle.salt_model.specs.Naming.{IsNaming}
use Rattle.salt_model.specs.Printable.{IsPrintable}
use Rattle.salt_model.specs.Trace.{Trace}
use Rattle.salt_model.specs.Words.{Every}
use Rattle.salt_model.specs.declared.events.Event.{Event}
use Rattle.salt_model.specs.declared.shown.Item.{Item}
use Rattle.law_texts.specs.EventLines.{Inline, item_line}
use Rattle.salt_values.specs.declared.id.Id.{Id}
use Rattle.std.proofs.Common.{Bool, List, None, Option, Some, [], ap, append-nil, append_assoc, arith, false, flat_map, inl, inr, length, refl, subst, suc, sym, true, ℕ, ◌+◌, ◌++◌, ◌<◌, ◌∙◌, ◌∷◌, ◌≡◌, ◌⊎◌}
use Rattle.std.proofs.lemmas.List.{append_cancel_left, length-append}
use Rattle.std.specs.Bool.{⊤}

-- WHERE FINDINGS ARE

abbrev IsBelow : ℕ → Finding → Type 0
IsBelow m sound = ⊤
IsBelow m (unformed k) = k < m
IsBelow m (broken law u k) = k < m

below_step : (n m : ℕ) (f : Bool) (b : Option Break) (x : Finding) → n < m → IsBelow m x → IsBelow m (found_by n f b x)
below_step n m false b x h k = h
below_step n m true (Some b) x h k = h
below_step n m true None x h k = k

found_below : (n : ℕ) (trace : Trace) (es : List Event) → IsBelow (n + length es) (found_on n trace es)
found_below n trace [] = tt
found_below n trace (e ∷ es) =
    let more = found_below (suc n) (told trace e) es in
    let same : suc n + length es ≡ n + suc (length es) = omega arith in
    below_step n (n + suc (length es)) (is_formed_by trace e) (broken_by trace e) (found_on (suc n) (told trace e) es) (omega arith)
    (subst (λ m. IsBelow m (found_on (suc n) (told trace e) es)) same more)

-- a finding that is amiss at this event
abbrev pub IsAt : ℕ → Finding → Type 0
IsAt m sound = ⊥
IsAt m (unformed k) = k ≡ m
IsAt m (broken law u k) = k ≡ m

first_at : (m : ℕ) (f g : Finding) → IsBelow m f → IsAt m (then_on f g) → f ≡ sound
first_at m sound g h k = refl
first_at m (unformed n) g h k = absurd (omega (arith, h, k))
first_at m (broken law u n) g h k = absurd (omega (arith, h, k))

pub sound_before : (story : List Event) (e : Event) → IsAt (suc (length story)) (found_in (story ++ e ∷ [])) → found_in story ≡ sound
sound_before story e h =
    let grown = found_grows 1 (retold []) story (e ∷ []) in
    let one : 1 + length story ≡ suc (length story) = omega arith in
    first_at (suc (length story)) (found_in story) (found_on (1 + length story) (told_on (retold []) story) (e ∷ []))
    (subst (λ m. IsBelow m (found_in story)) one (found_below 1 (retold []) story)) (subst (IsAt (suc (length story))) grown h)

front_sound : (f g : Finding) → then_on f g ≡ sound → f ≡ sound
front_sound sound g e = refl
front_sound (unformed n) g e = absurd cc
front_sound (broken law u n) g e = absurd cc

pub sound_front : (front more : List Event) → found_in (front ++ more) ≡ sound → found_in front ≡ sound
sound_front front more e = front_sound (found_in front) _ (sym (found_grows 1 (retold []) front more) ∙ e)

-- TEXTS OF STORIES THAT GO ON

text_app : (trace : Trace) (as_ bs : List Event) → text_on trace (as_ ++ bs) ≡ text_on trace as_ ++ text_on (told_on trace as_) bs
text_app trace [] bs = refl
text_app trace (a ∷ as_) bs =
    ap (λ l. event_text (tables trace) a ++ l) (text_app (told trace a) as_ bs)
    ∙ sym (append_assoc (event_text (tables trace) a) (text_on (told trace a) as_) (text_on (told_on (told trace a) as_) bs))

pub printable_app : (trace : Trace) (as_ bs : List Event) → ArePrintableOn trace (as_ ++ bs) → ArePrintableOn trace as_ × ArePrintableOn (told_on trace as_) bs
printable_app trace [] bs h = (tt, h)
printable_app trace (a ∷ as_) bs h = let r = printable_app (told trace a) as_ bs h.1 in ((h.0, r.0), r.1)

-- the same text behind the same story
behind_story : (a : List Event) (is js : List Item) (c : List Event) (r s : List ℕ) →
    text_so_far (record { story = a; items = is }) ++ r ≡ text_so_far (record { story = a ++ c; items = js }) ++ s →
    flat_map (item_text (tables_told a)) is ++ r ≡ text_on (retold a) c ++ (flat_map (item_text (tables_told (a ++ c))) js ++ s)
behind_story a is js c r s e =
    let left = append_assoc (text_on (retold []) a) (flat_map (item_text (tables_told a)) is) r in
    let right = append_assoc (text_on (retold []) (a ++ c)) (flat_map (item_text (tables_told (a ++ c))) js) s
    ∙ ap (λ l. l ++ (flat_map (item_text (tables_told (a ++ c))) js ++ s)) (text_app (retold []) a c)
    ∙ append_assoc (text_on (retold []) a) (text_on (retold a) c) (flat_map (item_text (tables_told (a ++ c))) js ++ s) in
    append_cancel_left (text_on (retold []) a) _ _ (sym left ∙ e ∙ right)

-- COUNTS OF ITEMS

same_count : (schema : List TableDef) (is js : List Item) (r s : List ℕ) → Every (λ i. Inline (item_line schema i)) is → Every (λ i. Inline (item_line schema i)) js →
    length r ≡ length s → flat_map (item_text schema) is ++ r ≡ flat_map (item_text schema) js ++ s → length is ≡ length js
same_count schema [] [] r s g h n e = refl
same_count schema [] (j ∷ js) r s g h n e =
    let all = ap length e in
    let a = length-append (item_text schema j) (flat_map (item_text schema) js) in
    let b = length-append (flat_map (item_text schema) (j ∷ js)) s in
    let c = ap length (item_ended schema j) in
    let d = length-append (item_line schema j) (10 ∷ []) in
    absurd (omega (arith, all, a, b, c, d, n))
same_count schema (i ∷ is) [] r s g h n e =
    let all = ap length e in
    let a = length-append (item_text schema i) (flat_map (item_text schema) is) in
    let b = length-append (flat_map (item_text schema) (i ∷ is)) r in
    let c = ap length (item_ended schema i) in
    let d = length-append (item_line schema i) (10 ∷ []) in
    absurd (omega (arith, all, a, b, c, d, n))
same_count schema (i ∷ is) (j ∷ js) r s g h n e =
    let left = append_assoc (item_text schema i) (flat_map (item_text schema) is) r
    ∙ ap (λ l. l ++ (flat_map (item_text schema) is ++ r)) (item_ended schema i) ∙ append_assoc (item_line schema i) (10 ∷ []) (flat_map (item_text schema) is ++ r) in
    let right = append_assoc (item_text schema j) (flat_map (item_text schema) js) s
    ∙ ap (λ l. l ++ (flat_map (item_text schema) js ++ s)) (item_ended schema j) ∙ append_assoc (item_line schema j) (10 ∷ []) (flat_map (item_text schema) js ++ s) in
    let same = one_line (item_line schema i) (item_line schema j) _ _ g.0 h.0 (sym left ∙ e ∙ right) in
    ap (λ n. suc n) (same_count schema is js r s g.1 h.1 n same.1)

-- TWO VERDICTS

-- how a verdict is reached
data Way (bytes : List ℕ) : Verdict → Type 0 where
  whole_told : (a : List Event) → BeginsWith bytes (record { story = a; items = [] }) [] → found_in a ≡ sound → Way bytes (Yes (length a))
  amiss : (a : List Event) (e : Event) (r : List ℕ) (v : Verdict) → BeginsWith bytes (record { story = a ++ e ∷ []; items = [] }) r → found_in a ≡ sound →
      ((found_in (a ++ e ∷ []) ≡ unformed (suc (length a))) × (v ≡ Unformed (suc (length a)))) ⊎
      ((law : Law) × (u : Id) × (found_in (a ++ e ∷ []) ≡ broken law u (suc (length a))) × (v ≡ Broken law u (suc (length a)))) → Way bytes v
  stuck : (a : List Event) (is : List Item) (r : List ℕ) → BeginsWith bytes (record { story = a; items = is }) r → found_in a ≡ sound → IsLeft is r →
      IsLongest bytes r → Way bytes (NotText (suc (lines_so_far (record { story = a; items = is }))))

way_of : (bytes : List ℕ) (v : Verdict) → IsVerdict bytes v → Way bytes v
way_of bytes v (all_told a b f) = whole_told a b f
way_of bytes v (breaks a e r law u b f) = amiss a e r v b (sound_before a e (subst (IsAt (suc (length a))) (sym f) refl)) (inr (law, u, f, refl))
way_of bytes v (is_unformed a e r b f) = amiss a e r v b (sound_before a e (subst (IsAt (suc (length a))) (sym f) refl)) (inl (f, refl))
way_of bytes v (no_text s r b f left longest) = stuck s.story s.items r b f left longest

same_story : (a : List Event) (is js : List Item) (r s : List ℕ) →
    text_so_far (record { story = a; items = is }) ++ r ≡ text_so_far (record { story = a; items = js }) ++ s →
    flat_map (item_text (tables_told a)) is ++ r ≡ flat_map (item_text (tables_told a)) js ++ s
same_story a is js r s e =
    append_cancel_left (text_on (retold []) a) _ _
    (sym (append_assoc (text_on (retold []) a) (flat_map (item_text (tables_told a)) is) r) ∙ e
    ∙ append_assoc (text_on (retold []) a) (flat_map (item_text (tables_told a)) js) s)

last_text : (a : List Event) (e : Event) (r : List ℕ) →
    text_so_far (record { story = a ++ e ∷ []; items = [] }) ++ r ≡ text_on (retold []) a ++ (event_line (tables_told a) e ++ (10 ∷ r))
last_text a e r =
    ap (λ l. l ++ r) (append-nil (text_on (retold []) (a ++ e ∷ [])) ∙ text_app (retold []) a (e ∷ []))
    ∙ append_assoc (text_on (retold []) a) (event_text (tables_told a) e ++ []) r
    ∙ ap (λ l. text_on (retold []) a ++ (l ++ r)) (append-nil (event_text (tables_told a) e))
    ∙ ap (λ l. text_on (retold []) a ++ l) (append_assoc (event_line (tables_told a) e) (10 ∷ []) r)

snoc_one : {A : Type 0} (xs ys : List A) (x y : A) → xs ++ x ∷ [] ≡ ys ++ y ∷ [] → (xs ≡ ys) × (x ≡ y)
snoc_one [] [] x y e = (refl, cc)
snoc_one [] (b ∷ []) x y e = absurd cc
snoc_one [] (b ∷ c ∷ ys) x y e = absurd cc
snoc_one (a ∷ []) [] x y e = absurd cc
snoc_one (a ∷ b ∷ xs) [] x y e = absurd cc
snoc_one (a ∷ xs) (b ∷ ys) x y e =
    let head : a ≡ b = cc in
    let tail : xs ++ x ∷ [] ≡ ys ++ y ∷ [] = cc in
    let r = snoc_one xs ys x y tail in
    let rest = r.0 in
    let all : a ∷ xs ≡ b ∷ ys = cc in
    (all, r.1)

-- what is found at an event that is amiss
abbrev Found : List Event → Event → Verdict → Type 0
Found a e v =
    ((found_in (a ++ e ∷ []) ≡ unformed (suc (length a))) × (v ≡ Unformed (suc (length a)))) ⊎
    ((law : Law) × (u : Id) × (found_in (a ++ e ∷ []) ≡ broken law u (suc (length a))) × (v ≡ Broken law u (suc (length a))))

not_sound : (a : List Event) (e : Event) (v : Verdict) → Found a e v → found_in (a ++ e ∷ []) ≡ sound → ⊥
not_sound a e v (inl f) h = let no_way : unformed (suc (length a)) ≡ sound = sym f.0 ∙ h in cc
not_sound a e v (inr f) h = let no_way : broken f.0 f.1 (suc (length a)) ≡ sound = sym f.2 ∙ h in cc

one_finding : (a : List Event) (e : Event) (v w : Verdict) → Found a e v → Found a e w → v ≡ w
one_finding a e v w (inl f) (inl g) = f.1 ∙ sym g.1
one_finding a e v w (inl f) (inr g) = let no_way : unformed (suc (length a)) ≡ broken g.0 g.1 (suc (length a)) = sym f.0 ∙ g.2 in absurd cc
one_finding a e v w (inr f) (inl g) = let no_way : broken f.0 f.1 (suc (length a)) ≡ unformed (suc (length a)) = sym f.2 ∙ g.0 in absurd cc
one_finding a e v w (inr f) (inr g) =
    let same : broken f.0 f.1 (suc (length a)) ≡ broken g.0 g.1 (suc (length a)) = sym f.2 ∙ g.2 in
    let law : f.0 ≡ g.0 = cc in
    let unit : f.1 ≡ g.1 = cc in
    f.3 ∙ (λ i. Broken (law i) (unit i) (suc (length a))) ∙ sym g.3

nothing_left : (schema : List TableDef) (js : List Item) (s : List ℕ) → [] ≡ flat_map (item_text schema) js ++ s → IsLeft js s → ⊥
nothing_left schema [] [] e left = left
nothing_left schema [] (b ∷ s) e left = cc
nothing_left schema (j ∷ js) s e left =
    let all = ap length e in
    let a = length-append (item_text schema j) (flat_map (item_text schema) js) in
    let b = length-append (flat_map (item_text schema) (j ∷ js)) s in
    let c = ap length (item_ended schema j) in
    let d = length-append (item_line schema j) (10 ∷ []) in
    omega (arith, all, a, b, c, d)

module _ (laws : Named) (one : OneEvent) (whole : LinesAreWhole) where
  named : (a : List Event) → found_in a ≡ sound → IsNaming (tables_told a)
  named a f = named_story laws 1 (retold []) a laws.none f

  agreed : (bytes : List ℕ) (a b : List Event) (is js : List Item) (r s : List ℕ) → BeginsWith bytes (record { story = a; items = is }) r → found_in a ≡ sound →
      BeginsWith bytes (record { story = b; items = js }) s → IsFrontOf a b ⊎ IsFrontOf b a
  agreed bytes a b is js r s g f h =
      agree laws one 1 (retold []) a b (flat_map (item_text (tables_told a)) is ++ r) (flat_map (item_text (tables_told b)) js ++ s) laws.none g.events h.events f
      (sym (append_assoc (text_on (retold []) a) (flat_map (item_text (tables_told a)) is) r) ∙ sym g.text ∙ h.text
      ∙ append_assoc (text_on (retold []) b) (flat_map (item_text (tables_told b)) js) s)

  -- nothing goes past the longest
  no_more : (bytes : List ℕ) (a : List Event) (c : Event) (cs : List Event) (is js : List Item) (r s : List ℕ) →
      BeginsWith bytes (record { story = a; items = is }) r → found_in a ≡ sound → IsLongest bytes r →
      BeginsWith bytes (record { story = a ++ c ∷ cs; items = js }) s → ⊥
  no_more bytes a c cs is js r s g f longest h =
      let z = text_on (told (retold a) c) cs ++ (flat_map (item_text (tables_told (a ++ c ∷ cs))) js ++ s) in
      let behind = behind_story a is js (c ∷ cs) r s (sym g.text ∙ h.text)
      ∙ append_assoc (event_text (tables_told a) c) (text_on (told (retold a) c) cs) (flat_map (item_text (tables_told (a ++ c ∷ cs))) js ++ s) in
      let printable = (printable_app (retold []) a (c ∷ cs) h.events).1.0 in
      let one_more = length-append (text_on (told (retold a) c) cs) (flat_map (item_text (tables_told (a ++ c ∷ cs))) js ++ s) in
      let items_more = length-append (flat_map (item_text (tables_told (a ++ c ∷ cs))) js) s in
      let least = longest (record { story = a ++ c ∷ cs; items = js }) s h in
      clash whole (tables_told a) (named a f) is c r z g.items printable behind (omega (arith, one_more, items_more, least))

  -- the longest is a front of no other story, but itself
  only_front : (bytes : List ℕ) (a b : List Event) (is js : List Item) (r s : List ℕ) → BeginsWith bytes (record { story = a; items = is }) r → found_in a ≡ sound →
      IsLongest bytes r → BeginsWith bytes (record { story = b; items = js }) s → IsFrontOf a b → b ≡ a
  only_front bytes a b is js r s g f longest h ([], e) = e ∙ append-nil a
  only_front bytes a b is js r s g f longest h (c ∷ cs, e) =
      absurd (no_more bytes a c cs is js r s g f longest (subst (λ d. BeginsWith bytes (record { story = d; items = js }) s) e h))

  all_longest : (bytes : List ℕ) → IsLongest bytes []
  all_longest bytes = λ s less b. omega arith

  both_longest : (bytes : List ℕ) (a b : List Event) (is js : List Item) (r s : List ℕ) → BeginsWith bytes (record { story = a; items = is }) r → found_in a ≡ sound →
      IsLongest bytes r → BeginsWith bytes (record { story = b; items = js }) s → found_in b ≡ sound → IsLongest bytes s → b ≡ a
  both_longest bytes a b is js r s g f longest h k other = go (agreed bytes a b is js r s g f h)
    where
      go : IsFrontOf a b ⊎ IsFrontOf b a → b ≡ a
      go (inl t) = only_front bytes a b is js r s g f longest h t
      go (inr t) = sym (only_front bytes b a js is s r h k other g t)

  -- nothing is amiss in the longest
  longest_amiss : (bytes : List ℕ) (a b : List Event) (e : Event) (is : List Item) (r s : List ℕ) (w : Verdict) → BeginsWith bytes (record { story = a; items = is }) r →
      found_in a ≡ sound → IsLongest bytes r → BeginsWith bytes (record { story = b ++ e ∷ []; items = [] }) s → Found b e w → ⊥
  longest_amiss bytes a b e is r s w g f longest h k = go (agreed bytes a (b ++ e ∷ []) is [] r s g f h)
    where
      go : IsFrontOf a (b ++ e ∷ []) ⊎ IsFrontOf (b ++ e ∷ []) a → ⊥
      go (inl t) = let same = only_front bytes a (b ++ e ∷ []) is [] r s g f longest h t in not_sound b e w k (ap found_in same ∙ f)
      go (inr t) = not_sound b e w k (sound_front (b ++ e ∷ []) t.0 (sym (ap found_in t.1) ∙ f))

  -- of two stories with something amiss at their ends, neither goes past the other
  past : (bytes : List ℕ) (a b : List Event) (d e : Event) (r s : List ℕ) (w : Verdict) → BeginsWith bytes (record { story = a ++ d ∷ []; items = [] }) r → found_in a ≡ sound →
      BeginsWith bytes (record { story = b ++ e ∷ []; items = [] }) s → Found b e w → (c : Event) × (cs : List Event) × (b ++ e ∷ [] ≡ a ++ c ∷ cs)
  past bytes a b d e r s w g f h k =
      go (agreed bytes a (b ++ e ∷ []) [] [] (event_line (tables_told a) d ++ (10 ∷ r)) s begun f h)
    where
      begun : BeginsWith bytes (record { story = a; items = [] }) (event_line (tables_told a) d ++ (10 ∷ r))
      begun = record {
        text = g.text ∙ last_text a d r ∙ ap (λ l. l ++ (event_line (tables_told a) d ++ (10 ∷ r))) (sym (append-nil (text_on (retold []) a)));
        events = (printable_app (retold []) a (d ∷ []) g.events).0;
        items = tt;
      }

      go : IsFrontOf a (b ++ e ∷ []) ⊎ IsFrontOf (b ++ e ∷ []) a → (c : Event) × (cs : List Event) × (b ++ e ∷ [] ≡ a ++ c ∷ cs)
      go (inl ([], t)) = absurd (not_sound b e w k (ap found_in (t ∙ append-nil a) ∙ f))
      go (inl (c ∷ cs, t)) = (c, cs, t)
      go (inr t) = absurd (not_sound b e w k (sound_front (b ++ e ∷ []) t.0 (sym (ap found_in t.1) ∙ f)))

  same_amiss : (bytes : List ℕ) (a b : List Event) (d e : Event) (r s : List ℕ) (v w : Verdict) → BeginsWith bytes (record { story = a ++ d ∷ []; items = [] }) r →
      found_in a ≡ sound → Found a d v → BeginsWith bytes (record { story = b ++ e ∷ []; items = [] }) s → found_in b ≡ sound → Found b e w → v ≡ w
  same_amiss bytes a b d e r s v w g f k h l m =
      let p = past bytes a b d e r s w g f h m in
      let q = past bytes b a e d s r v h l g k in
      let p_long = ap length p.2 in
      let p_left = length-append b (e ∷ []) in
      let p_right = length-append a (p.0 ∷ p.1) in
      let q_long = ap length q.2 in
      let q_left = length-append a (d ∷ []) in
      let q_right = length-append b (q.0 ∷ q.1) in
      let none : length p.1 ≡ 0 = omega (arith, p_long, p_left, p_right, q_long, q_left, q_right) in
      let story = stories p.1 none p.0 p.2 in
      let texts = sym (last_text a d r) ∙ sym g.text ∙ h.text ∙ last_text b e s in
      let moved = subst (λ c. text_on (retold []) a ++ (event_line (tables_told a) d ++ (10 ∷ r)) ≡ text_on (retold []) c ++ (event_line (tables_told c) e ++ (10 ∷ s))) story texts in
      let behind = append_cancel_left (text_on (retold []) a) _ _ moved in
      let left = (printable_app (retold []) a (d ∷ []) g.events).1.0 in
      let right = subst (λ c. IsPrintable (tables_told c) e) story (printable_app (retold []) b (e ∷ []) h.events).1.0 in
      let event = (one (tables_told a) d e r s (record { naming = named a f; events = (left, tt) }) (record { naming = named a f; events = (right, tt) }) behind).0 in
      one_finding a d v w k (subst (λ c. Found a c w) (sym event) (subst (λ c. Found c e w) story m))
    where
      stories : (cs : List Event) → length cs ≡ 0 → (c : Event) → b ++ e ∷ [] ≡ a ++ c ∷ cs → b ≡ a
      stories [] z c t = (snoc_one b a e c t).0
      stories (x ∷ cs) z c t = absurd (omega (arith, z))

  one_way : (bytes : List ℕ) (v w : Verdict) → Way bytes v → Way bytes w → v ≡ w
  one_way bytes v w (whole_told a g f) (whole_told b h k) =
      ap (λ c. Yes (length c)) (sym (both_longest bytes a b [] [] [] [] g f (all_longest bytes) h k (all_longest bytes)))
  one_way bytes v w (whole_told a g f) (amiss b e s w' h k m) = absurd (longest_amiss bytes a b e [] [] s w g f (all_longest bytes) h m)
  one_way bytes v w (amiss a d r v' g f k) (whole_told b h l) = absurd (longest_amiss bytes b a d [] [] r v h l (all_longest bytes) g k)
  one_way bytes v w (amiss a d r v' g f k) (amiss b e s w' h l m) = same_amiss bytes a b d e r s v w g f k h l m
  one_way bytes v w (amiss a d r v' g f k) (stuck b js s h l left longest) = absurd (longest_amiss bytes b a d js s r v h l longest g k)
  one_way bytes v w (stuck a is r g f left longest) (amiss b e s w' h k m) = absurd (longest_amiss bytes a b e is r s w g f longest h m)
  one_way bytes v w (whole_told a g f) (stuck b js s h k left longest) =
      let same = both_longest bytes a b [] js [] s g f (all_longest bytes) h k longest in
      let moved = subst (λ c. BeginsWith bytes (record { story = c; items = js }) s) same h in
      absurd (nothing_left (tables_told a) js s (same_story a [] js [] s (sym g.text ∙ moved.text)) left)
  one_way bytes v w (stuck a is r g f left longest) (whole_told b h k) =
      let same = both_longest bytes b a [] is [] r h k (all_longest bytes) g f longest in
      let moved = subst (λ c. BeginsWith bytes (record { story = c; items = is }) r) same g in
      absurd (nothing_left (tables_told b) is r (same_story b [] is [] r (sym h.text ∙ moved.text)) left)
  one_way bytes v w (stuck a is r g f left longest) (stuck b js s h k right other) =
      let same = both_longest bytes a b is js r s g f longest h k other in
      let moved = subst (λ c. BeginsWith bytes (record { story = c; items = js }) s) same h in
      let there = longest (record { story = b; items = js }) s h in
      let back = other (record { story = a; items = is }) r g in
      let even : length r ≡ length s = omega (arith, there, back) in
      let count = same_count (tables_told a) is js r s (are_lines whole (tables_told a) (named a f) is g.items) (are_lines whole (tables_told a) (named a f) js moved.items) even
      (same_story a is js r s (sym g.text ∙ moved.text)) in
      let lines : lines_of_events a + length is ≡ lines_of_events b + length js = omega (arith, count, ap lines_of_events same) in
      ap (λ n. NotText (suc n)) lines

  pub one_verdict : (bytes : List ℕ) (v w : Verdict) → IsVerdict bytes v → IsVerdict bytes w → v ≡ w
  one_verdict bytes v w g h = one_way bytes v w (way_of bytes v g) (way_of bytes w h)
