-- An event's line, read and back.
use Rattle.salt_ast.specs.ProgramTexts.{base_text, id_text, stop_text}
use Rattle.salt_ast.specs.Texts.{preceded, statement_text}
use Rattle.salt_ast.specs.declared.trees.Statement.{Statement}
use Rattle.salt_ast.specs.declared.trees.TableDef.{TableDef}
use Rattle.law_definitions.specs.Texts.{IsStatementText, IsTextOf, definition_in, statement_in}
use Rattle.salt_model.specs.Kept.{Definition, OfProgram, OfTable}
use Rattle.salt_events.proofs.AnswerLaws.{IsAnswer, answer_back, answer_read, cut_back, cut_read}
use Rattle.salt_events.proofs.KindLaws.{IsKind, kind_back, kind_line, kind_part, kind_read}
use Rattle.salt_events.proofs.ListLaws.{IsList, base_back, base_read, list_back, list_read, owner_back, owner_read, stop_back, stop_read}
use Rattle.salt_events.proofs.RefusalLaws.{IsRefusal, refusal_back, refusal_read}
use Rattle.salt_events.specs.Lines.{event_in}
use Rattle.salt_events.specs.Refusing.{refusal_in}
use Rattle.salt_events.specs.Lists.{base_at, list_in, owner_at, stop_at}
use Rattle.salt_model.specs.Printable.{HasPrintedForm, IsDefinition, IsPrintable, IsPrintableKind, IsPrintableRefusal, IsSpelled}
use Rattle.salt_model.specs.Words.{is_empty}
use Rattle.salt_events.proofs.Numbers.{IsId, IsNumber, behind_back, id_back, id_read, map_if, number_back, number_read, then_if}
use Rattle.salt_events.proofs.PartLaws.{IsEnd, IsWhole, either_if, end_back, end_read, map_some, number_whole, whole_back, word_if}
use Rattle.salt_events.specs.Fronts.{behind, id_at, number_at}
use Rattle.salt_events.specs.Reading.{answer_in, base_line_in, cut_before, defined_in, definition_event, did_in, end_in, kind_in, number_in, opened_in, plain_line_in, unit_line_in}
use Rattle.salt_model.specs.EventTexts.{ShowsNothing, answer_text, end_text, event_line, owner_text}
use Rattle.salt_model.specs.Sized.{IsSizedAnswer, IsSizedEvent, IsSizedId, IsSizedOwner, IsSizedPair}
use Rattle.salt_model.specs.declared.events.End.TheVariants as end
use Rattle.salt_model.specs.declared.events.End.{End}
use Rattle.salt_model.specs.declared.events.Event.TheVariants as event
use Rattle.salt_model.specs.declared.events.Event.{Event}
use Rattle.salt_model.specs.declared.events.Why.TheVariants as why
use Rattle.law_texts.specs.Arrow.{behind_arrow}
use Rattle.salt_ast.specs.Bytes.{is_digit}
use Rattle.salt_ast.specs.Pieces.{NotNext}
use Rattle.salt_values.specs.declared.id.Id.{Id}
use Rattle.std.proofs.Common.{IfSome, List, None, Option, Some, ap, codes, false, inl, inr, is_some, option_and_then, option_map, refl, subst, sym, true, ℕ, ◌++◌, ◌<◌, ◌^◌, ◌∙◌, ◌∷◌, ◌≡◌}
use Rattle.std.specs.Bool.{then_some, ⊤}
use Rattle.std.specs.Fmt.{decimal}

-- what the laws below say: of statements' texts, and of the arrow behind them
pub record OfStatements : Type 0 where
  pub read : (text : List ℕ) (st : Statement) → statement_in text ≡ Some st → IsStatementText st text
  pub back : (text : List ℕ) (st : Statement) → IsStatementText st text → statement_in text ≡ Some st
  pub defines : (text : List ℕ) (d : Definition) → (definition_in text ≡ Some d → IsTextOf d text) × (IsTextOf d text → definition_in text ≡ Some d)
  pub arrow : (st : Statement) (x : List ℕ) → IsSpelled st → behind_arrow (statement_text st ++ (32 ∷ 45 ∷ 62 ∷ x)) ≡ x

-- READ

-- an end's text is no beginning
end_line : (u : Id) (e : End) → unit_line_in u (end_text e) ≡ option_map (λ d. event.Ended u d) (end_in (end_text e))
end_line u (end.Committed n) = refl
end_line u (end.Failed c) = refl
end_line u (end.Branched n c) = refl
end_line u end.RolledBack = refl
end_line u end.Victim = refl
end_line u end.Cut = refl

end_stops : (e : End) → NotNext is_digit (end_text e)
end_stops (end.Committed n) = refl
end_stops (end.Failed c) = refl
end_stops (end.Branched n c) = refl
end_stops end.RolledBack = refl
end_stops end.Victim = refl
end_stops end.Cut = refl

-- what a printed form asks: names are names, and lists are not empty
abbrev pub HasParts : Event → Type 0
HasParts (event.Began u k) = IsPrintableKind k
HasParts (event.Refused x) = IsPrintableRefusal x
HasParts (event.Did u st a) = IsSpelled st
HasParts (event.Defined n text) = IsDefinition text
HasParts (event.Waits u os) = is_empty os ≡ false
HasParts (event.Released bs) = is_empty bs ≡ false
HasParts (event.Early bs) = is_empty bs ≡ false
HasParts (event.Armed pairs) = is_empty pairs ≡ false
HasParts e = ⊤

pub event_read : (laws : OfStatements) (schema : List TableDef) (e : Event) → ShowsNothing e → IsSizedEvent e → HasParts e → event_in (event_line schema e) ≡ Some e
event_read laws schema (event.Began u kind_begun) r g k =
    let front = id_read u (codes " began " ++ kind_part kind_begun) g.0 refl in
    rw (kind_line kind_begun) (rw front (ap (option_map (λ l. event.Began u l)) (kind_read kind_begun k g.1)))
event_read laws schema (event.Ended u e) r g k =
    let front = id_read u (end_text e) g.0 (end_stops e) in
    rw front (end_line u e ∙ ap (option_map (λ d. event.Ended u d)) (end_read e g.1))
event_read laws schema (event.Accepted b) r g k = rw (id_read b (codes " accepted") g refl) refl
event_read laws schema (event.Finished b) r g k = rw (id_read b (codes " finished") g refl) refl
event_read laws schema (event.Down why.Stopped) r g k = refl
event_read laws schema (event.Down why.Fault) r g k = refl
event_read laws schema (event.Opened boot n) r g k = rw (number_read boot (32 ∷ decimal n) g.0 refl) (ap (option_map (λ m. event.Opened boot m)) (number_whole n g.1))
event_read laws schema event.Ready r g k = refl
event_read laws schema (event.Waits u os) r g k =
    let front = id_read u (codes " waits" ++ preceded (codes " ") owner_text os) g.0 refl in
    rw front (ap (option_map (λ l. event.Waits u l)) (list_read owner_at owner_text IsSizedOwner owner_read owner_back os g.1 k))
event_read laws schema (event.Released bs) r g k =
    ap (option_map event.Released) (list_read base_at base_text IsSizedId base_read base_back bs g k)
event_read laws schema (event.Early bs) r g k =
    ap (option_map event.Early) (list_read base_at base_text IsSizedId base_read base_back bs g k)
event_read laws schema (event.Armed pairs) r g k =
    ap (option_map event.Armed) (list_read stop_at stop_text IsSizedPair stop_read stop_back pairs g k)
event_read laws schema (event.Did u st a) r g k =
    let front = id_read u (codes " did " ++ (statement_text st ++ (codes " -> " ++ answer_text a))) g.0 refl in
    let answered : option_and_then answer_in (behind (codes " ") (32 ∷ answer_text a)) ≡ Some a = answer_read a g.1 in
    rw front (rw (laws.arrow st (32 ∷ answer_text a) k) (rw (cut_read (statement_text st) (32 ∷ answer_text a)) (rw (laws.back (statement_text st) st (k, refl))
    (ap (option_map (λ b. event.Did u st b)) answered))))
event_read laws schema (event.Defined n text) r g k =
    rw (number_read n (32 ∷ text) g refl) (rw (is_defined k) refl)
  where
    is_defined : IsDefinition text → is_some (definition_in text) ≡ true
    is_defined (inl d) = rw ((laws.defines text (OfTable d.0)).1 (d.1, d.2)) refl
    is_defined (inr p) = rw ((laws.defines text (OfProgram p.0)).1 (p.1, p.2)) refl
event_read laws schema (event.Refused x) r g k = ap (option_map event.Refused) (refusal_read x k)
event_read laws schema (event.Shown items) r g k = absurd r

-- what else a printed form asks of these events
parted : (schema : List TableDef) (e : Event) → ShowsNothing e → HasPrintedForm schema e → HasParts e
parted schema (event.Waits u os) r p = p
parted schema (event.Released bs) r p = p
parted schema (event.Early bs) r p = p
parted schema (event.Armed pairs) r p = p
parted schema (event.Began u k) r p = p
parted schema (event.Ended u e) r p = tt
parted schema (event.Accepted b) r p = tt
parted schema (event.Finished b) r p = tt
parted schema (event.Down w) r p = tt
parted schema (event.Opened boot n) r p = tt
parted schema event.Ready r p = tt
parted schema (event.Did u st a) r p = p
parted schema (event.Defined n text) r p = p
parted schema (event.Refused x) r p = p
parted schema (event.Shown items) r p = absurd r

printed : (schema : List TableDef) (e : Event) → ShowsNothing e → HasParts e → HasPrintedForm schema e
printed schema (event.Waits u os) r p = p
printed schema (event.Released bs) r p = p
printed schema (event.Early bs) r p = p
printed schema (event.Armed pairs) r p = p
printed schema (event.Began u k) r p = p
printed schema (event.Ended u e) r p = tt
printed schema (event.Accepted b) r p = tt
printed schema (event.Finished b) r p = tt
printed schema (event.Down w) r p = tt
printed schema (event.Opened boot n) r p = tt
printed schema event.Ready r p = tt
printed schema (event.Did u st a) r p = p
printed schema (event.Defined n text) r p = p
printed schema (event.Refused x) r p = p
printed schema (event.Shown items) r p = absurd r

-- BACK

module _ (laws : OfStatements) (schema : List TableDef) where
  pub record IsLine (line : List ℕ) (e : Event) : Type 0 where
    pub text : line ≡ event_line schema e
    pub read : ShowsNothing e
    pub sized : IsSizedEvent e
    pub parts : HasParts e

  did_back : (line : List ℕ) (u : Id) (x : List ℕ) → IsSizedId u → line ≡ codes "u" ++ (id_text u ++ (codes " did " ++ x)) → IfSome (did_in u x) (IsLine line)
  did_back line u x g e =
      then_if (option_and_then statement_in (cut_before x (behind_arrow x)))
      (λ st. option_map (λ a. event.Did u st a) (option_and_then answer_in (behind (codes " ") (behind_arrow x))))
      (λ st. IsSpelled st × (x ≡ statement_text st ++ (32 ∷ 45 ∷ 62 ∷ behind_arrow x))) (IsLine line)
      (then_if (cut_before x (behind_arrow x)) statement_in (λ t. x ≡ t ++ (32 ∷ 45 ∷ 62 ∷ behind_arrow x))
      (λ st. IsSpelled st × (x ≡ statement_text st ++ (32 ∷ 45 ∷ 62 ∷ behind_arrow x))) (cut_back x (behind_arrow x))
      (λ t f. of_text t f (statement_in t) refl))
      (λ st s. map_if (option_and_then answer_in (behind (codes " ") (behind_arrow x))) (λ a. event.Did u st a)
      (λ a. (behind_arrow x ≡ codes " " ++ answer_text a) × IsSizedAnswer a) (IsLine line)
      (then_if (behind (codes " ") (behind_arrow x)) answer_in (λ y. behind_arrow x ≡ codes " " ++ y) (λ a. (behind_arrow x ≡ codes " " ++ answer_text a) × IsSizedAnswer a)
      (behind_back (codes " ") (behind_arrow x))
      (λ y f. map_some (answer_in y) (IsAnswer y) (λ a. (behind_arrow x ≡ codes " " ++ answer_text a) × IsSizedAnswer a) (answer_back y) (λ a h. (f ∙ ap (λ l. codes " " ++ l) h.0, h.1))))
      (λ a h. record {
        text = e ∙ ap (λ l. codes "u" ++ (id_text u ++ (codes " did " ++ l))) (s.1 ∙ ap (λ l. statement_text st ++ (codes " ->" ++ l)) h.0);
        read = tt;
        sized = (g, h.1);
        parts = s.0;
      }))
    where
      of_text : (t : List ℕ) → x ≡ t ++ (32 ∷ 45 ∷ 62 ∷ behind_arrow x) → (o : Option Statement) → statement_in t ≡ o →
          IfSome o (λ st. IsSpelled st × (x ≡ statement_text st ++ (32 ∷ 45 ∷ 62 ∷ behind_arrow x)))
      of_text t f None h = tt
      of_text t f (Some st) h = let is = laws.read t st h in (is.0, f ∙ ap (λ l. l ++ (32 ∷ 45 ∷ 62 ∷ behind_arrow x)) is.1)

  unit_back : (line : List ℕ) (u : Id) (x : List ℕ) → IsSizedId u → line ≡ codes "u" ++ (id_text u ++ x) → IfSome (unit_line_in u x) (IsLine line)
  unit_back line u x g e =
      either_if (behind (codes " began ") x) (λ r. option_map (λ k. event.Began u k) (kind_in r)) _
      (λ y. x ≡ codes " began " ++ y) (IsLine line) (behind_back (codes " began ") x)
      (λ y t. map_if (kind_in y) (λ k. event.Began u k) (IsKind y) (IsLine line) (kind_back y)
      (λ k h. record { text = e ∙ ap (λ l. codes "u" ++ (id_text u ++ l)) (t ∙ ap (λ l. codes " began " ++ l) h.text ∙ sym (kind_line k)); read = tt; sized = (g, h.sized); parts = h.form }))
      (either_if (behind (codes " did ") x) (did_in u) _ (λ y. x ≡ codes " did " ++ y) (IsLine line) (behind_back (codes " did ") x)
      (λ y t. did_back line u y g (e ∙ ap (λ l. codes "u" ++ (id_text u ++ l)) t))
      (either_if (behind (codes " waits") x) (λ r. option_map (λ os. event.Waits u os) (list_in owner_at r)) (option_map (λ d. event.Ended u d) (end_in x))
      (λ y. x ≡ codes " waits" ++ y) (IsLine line) (behind_back (codes " waits") x)
      (λ y t. map_if (list_in owner_at y) (λ os. event.Waits u os) (IsList owner_at owner_text IsSizedOwner owner_read owner_back y) (IsLine line)
      (list_back owner_at owner_text IsSizedOwner owner_read owner_back y)
      (λ os h. record { text = e ∙ ap (λ l. codes "u" ++ (id_text u ++ l)) (t ∙ ap (λ l. codes " waits" ++ l) h.0.0); read = tt; sized = (g, h.0.1); parts = h.1 }))
      (map_if (end_in x) (λ d. event.Ended u d) (IsEnd x) (IsLine line) (end_back x)
      (λ d h. record { text = e ∙ ap (λ l. codes "u" ++ (id_text u ++ l)) h.0; read = tt; sized = (g, h.1); parts = tt }))))

  base_line_back : (line : List ℕ) (b : Id) (x : List ℕ) → IsSizedId b → line ≡ codes "b" ++ (id_text b ++ x) → IfSome (base_line_in b x) (IsLine line)
  base_line_back line b x g e =
      word_if x (codes " accepted") (event.Accepted b) _ (IsLine line)
      (λ t. record { text = e ∙ ap (λ l. codes "b" ++ (id_text b ++ l)) t; read = tt; sized = g; parts = tt })
      (word_if x (codes " finished") (event.Finished b) None (IsLine line)
      (λ t. record { text = e ∙ ap (λ l. codes "b" ++ (id_text b ++ l)) t; read = tt; sized = g; parts = tt }) tt)

  opened_back : (line x : List ℕ) → line ≡ codes "opened " ++ x → IfSome (opened_in x) (IsLine line)
  opened_back line x e =
      then_if (number_at x) (λ r. option_map (λ n. event.Opened r.0 n) (option_and_then number_in (behind (codes " ") r.1)))
      (λ r. IsNumber x r.0 r.1) (IsLine line) (number_back x)
      (λ r b. map_if (option_and_then number_in (behind (codes " ") r.1)) (λ n. event.Opened r.0 n) (λ n. (r.1 ≡ codes " " ++ decimal n) × (n < 2 ^ 64)) (IsLine line)
      (then_if (behind (codes " ") r.1) number_in (λ y. r.1 ≡ codes " " ++ y) (λ n. (r.1 ≡ codes " " ++ decimal n) × (n < 2 ^ 64)) (behind_back (codes " ") r.1)
      (λ y s. map_some (number_in y) (IsWhole y) (λ n. (r.1 ≡ codes " " ++ decimal n) × (n < 2 ^ 64)) (whole_back y) (λ n h. (s ∙ ap (λ l. codes " " ++ l) h.0, h.1))))
      (λ n h. record { text = e ∙ ap (λ l. codes "opened " ++ l) (b.text ∙ ap (λ l. decimal r.0 ++ l) h.0); read = tt; sized = (b.sized, h.1); parts = tt }))

  definition_back : (line text : List ℕ) (n : ℕ) → n < 2 ^ 64 → line ≡ codes "defined " ++ (decimal n ++ (codes " " ++ text)) → IfSome (definition_event n text) (IsLine line)
  definition_back line text n g e = go (definition_in text) refl
    where
      told : (d : Definition) → IsTextOf d text → IsDefinition text
      told (OfTable d) h = inl (d, h.0, h.1)
      told (OfProgram p) h = inr (p, h.0, h.1)

      go : (o : Option Definition) → definition_in text ≡ o → IfSome (then_some (is_some o) (event.Defined n text)) (IsLine line)
      go None q = tt
      go (Some d) q = record { text = e; read = tt; sized = g; parts = told d ((laws.defines text d).0 q) }

  defined_back : (line x : List ℕ) → line ≡ codes "defined " ++ x → IfSome (defined_in x) (IsLine line)
  defined_back line x e =
      then_if (number_at x) (λ r. option_and_then (definition_event r.0) (behind (codes " ") r.1)) (λ r. IsNumber x r.0 r.1) (IsLine line) (number_back x)
      (λ r n. then_if (behind (codes " ") r.1) (definition_event r.0) (λ y. r.1 ≡ codes " " ++ y) (IsLine line) (behind_back (codes " ") r.1)
      (λ y f. definition_back line y r.0 n.sized (e ∙ ap (λ l. codes "defined " ++ l) (n.text ∙ ap (λ l. decimal r.0 ++ l) f))))

  plain_back : (line : List ℕ) → IfSome (plain_line_in line) (IsLine line)
  plain_back line =
      word_if line (codes "ready") event.Ready _ (IsLine line) (λ t. record { text = t; read = tt; sized = tt; parts = tt })
      (word_if line (codes "down stopped") (event.Down why.Stopped) _ (IsLine line) (λ t. record { text = t; read = tt; sized = tt; parts = tt })
      (word_if line (codes "down fault") (event.Down why.Fault) None (IsLine line) (λ t. record { text = t; read = tt; sized = tt; parts = tt }) tt))

  line_back : (line : List ℕ) → IfSome (event_in line) (IsLine line)
  line_back line =
      either_if (behind (codes "u") line) (λ r. option_and_then (λ u. unit_line_in u.0 u.1) (id_at r)) _ (λ x. line ≡ codes "u" ++ x) (IsLine line)
      (behind_back (codes "u") line)
      (λ x e. then_if (id_at x) (λ u. unit_line_in u.0 u.1) (λ u. IsId x u.0 u.1) (IsLine line) (id_back x)
      (λ u h. unit_back line u.0 u.1 h.sized (e ∙ ap (λ l. codes "u" ++ l) h.text)))
      (either_if (behind (codes "b") line) (λ r. option_and_then (λ b. base_line_in b.0 b.1) (id_at r)) _ (λ x. line ≡ codes "b" ++ x) (IsLine line)
      (behind_back (codes "b") line)
      (λ x e. then_if (id_at x) (λ b. base_line_in b.0 b.1) (λ b. IsId x b.0 b.1) (IsLine line) (id_back x)
      (λ b h. base_line_back line b.0 b.1 h.sized (e ∙ ap (λ l. codes "b" ++ l) h.text)))
      (either_if (behind (codes "opened ") line) opened_in _ (λ x. line ≡ codes "opened " ++ x) (IsLine line)
      (behind_back (codes "opened ") line) (λ x e. opened_back line x e)
      (either_if (behind (codes "defined ") line) defined_in _ (λ x. line ≡ codes "defined " ++ x) (IsLine line)
      (behind_back (codes "defined ") line) (λ x e. defined_back line x e)
      (either_if (behind (codes "refused ") line) (λ r. option_map event.Refused (refusal_in r)) _ (λ x. line ≡ codes "refused " ++ x) (IsLine line)
      (behind_back (codes "refused ") line)
      (λ x e. map_if (refusal_in x) event.Refused (IsRefusal x) (IsLine line) (refusal_back x)
      (λ r h. record { text = e ∙ ap (λ l. codes "refused " ++ l) h.text; read = tt; sized = tt; parts = h.form }))
      (either_if (behind (codes "released") line) (λ r. option_map event.Released (list_in base_at r)) _ (λ x. line ≡ codes "released" ++ x) (IsLine line)
      (behind_back (codes "released") line)
      (λ x e. map_if (list_in base_at x) event.Released (IsList base_at base_text IsSizedId base_read base_back x) (IsLine line)
      (list_back base_at base_text IsSizedId base_read base_back x)
      (λ bs h. record { text = e ∙ ap (λ l. codes "released" ++ l) h.0.0; read = tt; sized = h.0.1; parts = h.1 }))
      (either_if (behind (codes "early") line) (λ r. option_map event.Early (list_in base_at r)) _ (λ x. line ≡ codes "early" ++ x) (IsLine line)
      (behind_back (codes "early") line)
      (λ x e. map_if (list_in base_at x) event.Early (IsList base_at base_text IsSizedId base_read base_back x) (IsLine line)
      (list_back base_at base_text IsSizedId base_read base_back x)
      (λ bs h. record { text = e ∙ ap (λ l. codes "early" ++ l) h.0.0; read = tt; sized = h.0.1; parts = h.1 }))
      (either_if (behind (codes "armed") line) (λ r. option_map event.Armed (list_in stop_at r)) (plain_line_in line) (λ x. line ≡ codes "armed" ++ x) (IsLine line)
      (behind_back (codes "armed") line)
      (λ x e. map_if (list_in stop_at x) event.Armed (IsList stop_at stop_text IsSizedPair stop_read stop_back x) (IsLine line)
      (list_back stop_at stop_text IsSizedPair stop_read stop_back x)
      (λ ps h. record { text = e ∙ ap (λ l. codes "armed" ++ l) h.0.0; read = tt; sized = h.0.1; parts = h.1 })) (plain_back line))))))))

pub event_back : (laws : OfStatements) (schema : List TableDef) (line : List ℕ) (e : Event) → event_in line ≡ Some e →
    (line ≡ event_line schema e) × ShowsNothing e × IsSizedEvent e × HasPrintedForm schema e
event_back laws schema line e h =
    let r = subst (λ o. IfSome o (IsLine laws schema line)) h (line_back laws schema line) in
    (r.text, r.read, r.sized, printed schema e r.read r.parts)

pub event_told : (laws : OfStatements) (schema : List TableDef) (e : Event) → ShowsNothing e → IsPrintable schema e → event_in (event_line schema e) ≡ Some e
event_told laws schema e r p = event_read laws schema e r p.sizes (parted schema e r p.form)
