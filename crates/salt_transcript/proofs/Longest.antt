-- Where no line in front goes on with a sound story, no more of the bytes is of a printable one.
use Rattle.law_texts.specs.EventLines.{Inline, event_lines, item_line}
use Rattle.salt_ast.specs.declared.trees.TableDef.{TableDef}
use Rattle.salt_audit.proofs.Clashing.{AreLines, LinesAreWhole, are_lines, clash, count_line, item_ended, no_item, one_line}
use Rattle.salt_audit.proofs.OneVerdict.{printable_app, sound_front}
use Rattle.salt_audit.specs.Retelling.{retold, told, told_on}
use Rattle.salt_audit.specs.Stories.{IsFrontOf}
use Rattle.salt_audit.specs.Transcripts.{ArePrintableOn, BeginsWith, IsLongest, IsShowable, SoFar, tables_told, text_on}
use Rattle.salt_audit.specs.Verdicts.{found_in, sound}
use Rattle.salt_events.specs.Lines.{an_event, an_item, counts}
use Rattle.salt_model.specs.After.{kept}
use Rattle.salt_model.specs.EventTexts.{ShowsNothing, event_line, event_text, item_text}
use Rattle.salt_model.specs.Kept.{schema_of}
use Rattle.salt_model.specs.Naming.{IsNaming}
use Rattle.salt_model.specs.Printable.{IsPrintable, IsPrintableItem}
use Rattle.salt_model.specs.Sized.{IsSized, IsSizedItem}
use Rattle.salt_model.specs.Trace.{Trace}
use Rattle.salt_model.specs.Words.{Every}
use Rattle.salt_model.specs.declared.events.Event.TheVariants as event
use Rattle.salt_model.specs.declared.events.Event.{Event}
use Rattle.salt_model.specs.declared.shown.Item.TheVariants as item
use Rattle.salt_model.specs.declared.shown.Item.{Item}
use Rattle.salt_transcript.specs.Fronts.{GoesOnNowhere}
use Rattle.std.proofs.Common.{Bool, List, None, Some, [], ap, append-nil, append_assoc, arith, codes, false, flat_map, inl, inr, length, map, refl, subst, sym, true, true≢false, ℕ, ◌+◌, ◌++◌, ◌<◌, ◌==◌, ◌∙◌, ◌∷◌, ◌≡◌, ◌≤◌, ◌⊎◌}
use Rattle.std.proofs.lemmas.Bool.Decides.{nat_tests}
use Rattle.std.proofs.lemmas.List.{append_cancel_left, length-append}
use Rattle.std.specs.Fmt.{decimal}
use Rattle.std.specs.Prelude.{nat_lt}

-- LINES

-- of items the first line, and what is behind it
item_front : (schema : List TableDef) (j : Item) (js : List Item) (x : List ℕ) →
    flat_map (item_text schema) (j ∷ js) ++ x ≡ item_line schema j ++ (10 ∷ (flat_map (item_text schema) js ++ x))
item_front schema j js x =
    let behind = flat_map (item_text schema) js ++ x in
    append_assoc (item_text schema j) (flat_map (item_text schema) js) x
    ∙ ap (λ (l : List ℕ). l ++ behind) (item_ended schema j) ∙ append_assoc (item_line schema j) (10 ∷ []) behind

abbrev starts : ℕ → List ℕ → Bool
starts b [] = false
starts b (c ∷ bytes) = c == b

-- an item's line is no count
no_count : (schema : List TableDef) (i : Item) (n : ℕ) (x z : List ℕ) → item_text schema i ++ x ≡ count_line n ++ z → ⊥
no_count schema (item.Lock l) n x z q = true≢false (ap (starts 108) q)
no_count schema (item.Base b m at) n x z q = true≢false (ap (starts 98) q)

last_inline : (ls : List (List ℕ)) (l : List ℕ) → Every Inline (ls ++ l ∷ []) → Inline l
last_inline [] l h = h.0
last_inline (k ∷ ls) l h = last_inline ls l h.1

plain_inline : (schema : List TableDef) (e : Event) → ShowsNothing e → Every Inline (event_lines schema e) → Inline (event_line schema e)
plain_inline schema (event.Shown is) s h = absurd s
plain_inline schema (event.Began u k) s h = h.0
plain_inline schema (event.Did u st a) s h = h.0
plain_inline schema (event.Waits u os) s h = h.0
plain_inline schema (event.Ended u d) s h = h.0
plain_inline schema (event.Accepted b) s h = h.0
plain_inline schema (event.Finished b) s h = h.0
plain_inline schema (event.Released bs) s h = h.0
plain_inline schema (event.Early bs) s h = h.0
plain_inline schema (event.Down w) s h = h.0
plain_inline schema (event.Opened boot n) s h = h.0
plain_inline schema event.Ready s h = h.0
plain_inline schema (event.Defined n text) s h = h.0
plain_inline schema (event.Refused r) s h = h.0
plain_inline schema (event.Armed pairs) s h = h.0

showable_all : (schema : List TableDef) (js : List Item) → Every (IsPrintableItem schema) js → Every IsSizedItem js → Every (IsShowable schema) js
showable_all schema [] g h = tt
showable_all schema (j ∷ js) g h = ((g.0, h.0), showable_all schema js g.1 h.1)

-- no line in front goes on behind all these items
module _ (schema : List TableDef) (all : List Item) (rest : List ℕ) (nowhere : GoesOnNowhere schema all rest) where
  no_item_goes : (j : Item) (js : List Item) (x : List ℕ) → Inline (item_line schema j) → IsShowable schema j → rest ≡ flat_map (item_text schema) (j ∷ js) ++ x → ⊥
  no_item_goes j js x inline p e =
      nowhere (item_line schema j) (flat_map (item_text schema) js ++ x) (all ++ j ∷ []) None
      (record { inline = inline; text = e ∙ item_front schema j js x }) (an_item j p.0 p.1 refl)

  -- OTHER ITEMS

  items_stuck : (is js : List Item) (less : List ℕ) → AreLines schema is → AreLines schema js → Every (IsShowable schema) js →
      flat_map (item_text schema) is ++ rest ≡ flat_map (item_text schema) js ++ less → length rest ≤ length less
  items_stuck is [] less g h p e =
      let long = ap length e in
      let parts = length-append (flat_map (item_text schema) is) rest in
      omega (arith, long, parts)
  items_stuck [] (j ∷ js) less g h p e = absurd (no_item_goes j js less h.0 p.0 e)
  items_stuck (i ∷ is) (j ∷ js) less g h p e =
      let same = one_line (item_line schema i) (item_line schema j) (flat_map (item_text schema) is ++ rest) (flat_map (item_text schema) js ++ less) g.0 h.0
      (sym (item_front schema i is rest) ∙ e ∙ item_front schema j js less) in
      items_stuck is js less g.1 h.1 p.1 same.1

  -- THEIR COUNT

  count_stuck : (is js : List Item) (n : ℕ) (z : List ℕ) → AreLines schema is → AreLines schema js → Every (IsShowable schema) js → Inline (codes "shown " ++ decimal n) →
      IsSized (length all) → length all + length js ≡ n + length is → flat_map (item_text schema) is ++ rest ≡ flat_map (item_text schema) js ++ (count_line n ++ z) → ⊥
  count_stuck [] [] n z g h p inline sized even e =
      let same : n ≡ length all = omega (arith, even) in
      nowhere (codes "shown " ++ decimal n) z [] (Some (event.Shown all)) (record { inline = inline; text = e ∙ append_assoc (codes "shown " ++ decimal n) (10 ∷ []) z })
      (counts sized (ap (λ (k : ℕ). codes "shown " ++ decimal k) same))
  count_stuck [] (j ∷ js) n z g h p inline sized even e = no_item_goes j js (count_line n ++ z) h.0 p.0 e
  count_stuck (i ∷ is) [] n z g h p inline sized even e =
      no_count schema i n (flat_map (item_text schema) is ++ rest) z (sym (append_assoc (item_text schema i) (flat_map (item_text schema) is) rest) ∙ e)
  count_stuck (i ∷ is) (j ∷ js) n z g h p inline sized even e =
      let same = one_line (item_line schema i) (item_line schema j) (flat_map (item_text schema) is ++ rest) (flat_map (item_text schema) js ++ (count_line n ++ z)) g.0 h.0
      (sym (item_front schema i is rest) ∙ e ∙ item_front schema j js (count_line n ++ z)) in
      count_stuck is js n z g.1 h.1 p.1 inline sized (omega (arith, even)) same.1

  -- EVENTS

  module _ (whole : LinesAreWhole) (naming : IsNaming schema) (showable : Every (IsShowable schema) all) where
    plain_stuck : (is : List Item) (e : Event) (z : List ℕ) → is ≡ all → ShowsNothing e → IsPrintable schema e → flat_map (item_text schema) is ++ rest ≡ event_text schema e ++ z → ⊥
    plain_stuck [] e z same shows p is =
        nowhere (event_line schema e) z [] (Some e)
        (record {
          inline = plain_inline schema e shows (whole schema e (record { naming = naming; events = (p, tt) }));
          text = is ∙ append_assoc (event_line schema e) (10 ∷ []) z;
        })
        (an_event e shows (sym same) p refl)
    plain_stuck (i ∷ is) e z same shows p text =
        no_item schema i e (flat_map (item_text schema) is ++ rest) z p.sizes (λ js q. subst ShowsNothing q shows)
        (sym (append_assoc (item_text schema i) (flat_map (item_text schema) is) rest) ∙ text)

    shown_stuck : (js : List Item) (z : List ℕ) → IsPrintable schema (event.Shown js) → IsSized (length all) →
        flat_map (item_text schema) all ++ rest ≡ event_text schema (event.Shown js) ++ z → ⊥
    shown_stuck js z p sized e =
        let items = flat_map (item_text schema) js in
        let count = codes "shown " ++ decimal (length js) in
        let shows = showable_all schema js p.form p.sizes in
        let text : event_text schema (event.Shown js) ++ z ≡ items ++ (count_line (length js) ++ z) =
        ap (λ (l : List ℕ). l ++ z) (append_assoc items count (10 ∷ [])) ∙ append_assoc items (count_line (length js)) z in
        count_stuck all js (length js) z (are_lines whole schema naming all showable) (are_lines whole schema naming js shows) shows
        (last_inline (map (item_line schema) js) count (whole schema (event.Shown js) (record { naming = naming; events = (p, tt) })))
        sized (omega arith) (e ∙ text)

    event_stuck : (e : Event) (z : List ℕ) → IsPrintable schema e → IsSized (length all) → flat_map (item_text schema) all ++ rest ≡ event_text schema e ++ z → ⊥
    event_stuck (event.Shown js) z p sized text = shown_stuck js z p sized text
    event_stuck (event.Began u k) z p sized text = plain_stuck all (event.Began u k) z refl tt p text
    event_stuck (event.Did u st a) z p sized text = plain_stuck all (event.Did u st a) z refl tt p text
    event_stuck (event.Waits u os) z p sized text = plain_stuck all (event.Waits u os) z refl tt p text
    event_stuck (event.Ended u d) z p sized text = plain_stuck all (event.Ended u d) z refl tt p text
    event_stuck (event.Accepted b) z p sized text = plain_stuck all (event.Accepted b) z refl tt p text
    event_stuck (event.Finished b) z p sized text = plain_stuck all (event.Finished b) z refl tt p text
    event_stuck (event.Released bs) z p sized text = plain_stuck all (event.Released bs) z refl tt p text
    event_stuck (event.Early bs) z p sized text = plain_stuck all (event.Early bs) z refl tt p text
    event_stuck (event.Down w) z p sized text = plain_stuck all (event.Down w) z refl tt p text
    event_stuck (event.Opened boot n) z p sized text = plain_stuck all (event.Opened boot n) z refl tt p text
    event_stuck event.Ready z p sized text = plain_stuck all event.Ready z refl tt p text
    event_stuck (event.Defined n text) z p sized is = plain_stuck all (event.Defined n text) z refl tt p is
    event_stuck (event.Refused r) z p sized text = plain_stuck all (event.Refused r) z refl tt p text
    event_stuck (event.Armed pairs) z p sized text = plain_stuck all (event.Armed pairs) z refl tt p text

-- STORIES

unless : (m n : ℕ) → (n ≤ m → ⊥) → m < n
unless m n never = by (nat_lt m n) refl
  where
    by : (t : Bool) → nat_lt m n ≡ t → m < n
    by true is = grind (arith, nat_tests, is)
    by false is = let more : n ≤ m = grind (arith, nat_tests, is) in absurd (never more)

text_app : (trace : Trace) (as_ bs : List Event) → text_on trace (as_ ++ bs) ≡ text_on trace as_ ++ text_on (told_on trace as_) bs
text_app trace [] bs = refl
text_app trace (a ∷ as_) bs =
    ap (λ (l : List ℕ). event_text (schema_of (kept trace)) a ++ l) (text_app (told trace a) as_ bs)
    ∙ sym (append_assoc (event_text (schema_of (kept trace)) a) (text_on (told trace a) as_) (text_on (told_on (told trace a) as_) bs))

abbrev so : List Event → List Item → SoFar
so story items = record { story = story; items = items }

-- behind a story, where one goes on with it
behind : (bytes : List ℕ) (a : List Event) (is js : List Item) (c : List Event) (r s : List ℕ) → BeginsWith bytes (so a is) r → BeginsWith bytes (so (a ++ c) js) s →
    flat_map (item_text (tables_told a)) is ++ r ≡ text_on (retold a) c ++ (flat_map (item_text (tables_told (a ++ c))) js ++ s)
behind bytes a is js c r s g h =
    let left = append_assoc (text_on (retold []) a) (flat_map (item_text (tables_told a)) is) r in
    let right = append_assoc (text_on (retold []) (a ++ c)) (flat_map (item_text (tables_told (a ++ c))) js) s
    ∙ ap (λ (l : List ℕ). l ++ (flat_map (item_text (tables_told (a ++ c))) js ++ s)) (text_app (retold []) a c)
    ∙ append_assoc (text_on (retold []) a) (text_on (retold a) c) (flat_map (item_text (tables_told (a ++ c))) js ++ s) in
    append_cancel_left (text_on (retold []) a) _ _ (sym left ∙ (sym g.text ∙ h.text) ∙ right)

-- behind the same story
beside : (bytes : List ℕ) (a : List Event) (is js : List Item) (r s : List ℕ) → BeginsWith bytes (so a is) r → BeginsWith bytes (so a js) s →
    flat_map (item_text (tables_told a)) is ++ r ≡ flat_map (item_text (tables_told a)) js ++ s
beside bytes a is js r s g h =
    append_cancel_left (text_on (retold []) a) _ _
    (sym (append_assoc (text_on (retold []) a) (flat_map (item_text (tables_told a)) is) r) ∙ (sym g.text ∙ h.text)
    ∙ append_assoc (text_on (retold []) a) (flat_map (item_text (tables_told a)) js) s)

-- what two stories in one text say
abbrev pub StoriesAgree : Type 0
StoriesAgree =
    (as_ bs : List Event) (p q : List ℕ) → ArePrintableOn (retold []) as_ → ArePrintableOn (retold []) bs → found_in as_ ≡ sound →
    text_on (retold []) as_ ++ p ≡ text_on (retold []) bs ++ q → IsFrontOf as_ bs ⊎ IsFrontOf bs as_

abbrev pub SoundAreNamed : Type 0
SoundAreNamed = (story : List Event) → found_in story ≡ sound → IsNaming (tables_told story)

-- what the laws say
pub record Laws : Type 0 where
  pub whole : LinesAreWhole
  pub agree : StoriesAgree
  pub named : SoundAreNamed

module _ (laws : Laws) (bytes : List ℕ) (a : List Event) (is : List Item) (sized : IsSized (length is)) (rest : List ℕ) (sure : found_in a ≡ sound)
    (g : BeginsWith bytes (so a is) rest) (nowhere : GoesOnNowhere (tables_told a) is rest) where
  lines_are : (js : List Item) → Every (IsShowable (tables_told a)) js → AreLines (tables_told a) js
  lines_are js h = are_lines laws.whole (tables_told a) (laws.named a sure) js h

  same_story : (js : List Item) (less : List ℕ) → BeginsWith bytes (so a js) less → length rest ≤ length less
  same_story js less h =
      items_stuck (tables_told a) is rest nowhere is js less (lines_are is g.items) (lines_are js h.items) h.items (beside bytes a is js rest less g h)

  -- a story that goes on with this one
  further : (c : Event) (cs : List Event) (js : List Item) (less : List ℕ) → BeginsWith bytes (so (a ++ c ∷ cs) js) less → ⊥
  further c cs js less h =
      let schema = tables_told a in
      let z = text_on (told (retold a) c) cs ++ (flat_map (item_text (tables_told (a ++ c ∷ cs))) js ++ less) in
      let p = (printable_app (retold []) a (c ∷ cs) h.events).1.0 in
      let text : flat_map (item_text schema) is ++ rest ≡ event_text schema c ++ z =
      behind bytes a is js (c ∷ cs) rest less g h ∙ append_assoc (event_text schema c) (text_on (told (retold a) c) cs) (flat_map (item_text (tables_told (a ++ c ∷ cs))) js ++ less) in
      event_stuck schema is rest nowhere laws.whole (laws.named a sure) g.items c z p sized text

-- a story that this one goes on with
nearer : (laws : Laws) (bytes : List ℕ) (b : List Event) (c : Event) (cs : List Event) (is js : List Item) (rest less : List ℕ) → found_in b ≡ sound →
    BeginsWith bytes (so (b ++ c ∷ cs) is) rest → BeginsWith bytes (so b js) less → length rest < length less
nearer laws bytes b c cs is js rest less sure g h =
    let schema = tables_told b in
    let z = text_on (told (retold b) c) cs ++ (flat_map (item_text (tables_told (b ++ c ∷ cs))) is ++ rest) in
    let p = (printable_app (retold []) b (c ∷ cs) g.events).1.0 in
    let text : flat_map (item_text schema) js ++ less ≡ event_text schema c ++ z =
    behind bytes b js is (c ∷ cs) less rest h g ∙ append_assoc (event_text schema c) (text_on (told (retold b) c) cs) (flat_map (item_text (tables_told (b ++ c ∷ cs))) is ++ rest) in
    let first = length-append (text_on (told (retold b) c) cs) (flat_map (item_text (tables_told (b ++ c ∷ cs))) is ++ rest) in
    let second = length-append (flat_map (item_text (tables_told (b ++ c ∷ cs))) is) rest in
    let named = laws.named b sure in
    unless (length rest) (length less)
    (λ (no_more : length less ≤ length rest). clash laws.whole schema named js c less z h.items p text (omega (arith, first, second, no_more)))

pub longest : (laws : Laws) (bytes : List ℕ) (s : SoFar) (rest : List ℕ) → IsSized (length s.items) → found_in s.story ≡ sound → BeginsWith bytes s rest →
    GoesOnNowhere (tables_told s.story) s.items rest → IsLongest bytes rest
longest laws bytes s rest sized sure g nowhere t less h =
    by (laws.agree s.story t.story (flat_map (item_text (tables_told s.story)) s.items ++ rest) (flat_map (item_text (tables_told t.story)) t.items ++ less) g.events h.events sure
    (sym (append_assoc (text_on (retold []) s.story) (flat_map (item_text (tables_told s.story)) s.items) rest) ∙ (sym g.text ∙ h.text)
    ∙ append_assoc (text_on (retold []) t.story) (flat_map (item_text (tables_told t.story)) t.items) less))
  where
    at_same : s.story ≡ t.story → length rest ≤ length less
    at_same e = same_story laws bytes s.story s.items sized rest sure g nowhere t.items less (subst (λ (a : List Event). BeginsWith bytes (so a t.items) less) (sym e) h)

    by : IsFrontOf s.story t.story ⊎ IsFrontOf t.story s.story → length rest ≤ length less
    by (inl ([], e)) = at_same (sym (append-nil s.story) ∙ sym e)
    by (inl (c ∷ cs, e)) = absurd (further laws bytes s.story s.items sized rest sure g nowhere c cs t.items less (subst (λ (b : List Event). BeginsWith bytes (so b t.items) less) e h))
    by (inr ([], e)) = at_same (e ∙ append-nil t.story)
    by (inr (c ∷ cs, e)) =
        let front = sound_front t.story (c ∷ cs) (subst (λ (b : List Event). found_in b ≡ sound) e sure) in
        let near = nearer laws bytes t.story c cs s.items t.items rest less front (subst (λ (b : List Event). BeginsWith bytes (so b s.items) rest) e g) h in
        omega (arith, near)

-- no sound story reaches behind an event that is amiss
pub before_amiss : (laws : Laws) (bytes : List ℕ) (s : SoFar) (more : List ℕ) → (found_in s.story ≡ sound → ⊥) → BeginsWith bytes s more →
    (t : SoFar) (less : List ℕ) → found_in t.story ≡ sound → BeginsWith bytes t less → length more < length less
before_amiss laws bytes s more amiss g t less sure h =
    by (laws.agree t.story s.story (flat_map (item_text (tables_told t.story)) t.items ++ less) (flat_map (item_text (tables_told s.story)) s.items ++ more) h.events g.events sure
    (sym (append_assoc (text_on (retold []) t.story) (flat_map (item_text (tables_told t.story)) t.items) less) ∙ (sym h.text ∙ g.text)
    ∙ append_assoc (text_on (retold []) s.story) (flat_map (item_text (tables_told s.story)) s.items) more))
  where
    by : IsFrontOf t.story s.story ⊎ IsFrontOf s.story t.story → length more < length less
    by (inl ([], e)) = absurd (amiss (subst (λ (b : List Event). found_in b ≡ sound) (sym (e ∙ append-nil t.story)) sure))
    by (inl (c ∷ cs, e)) = nearer laws bytes t.story c cs s.items t.items more less sure (subst (λ (b : List Event). BeginsWith bytes (so b s.items) more) e g) h
    by (inr (front, e)) = absurd (amiss (sound_front s.story front (subst (λ (b : List Event). found_in b ≡ sound) e sure)))
