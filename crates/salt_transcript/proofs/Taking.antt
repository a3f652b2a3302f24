-- What becomes of what is read by what a line tells.
use Rattle.salt_ast.specs.declared.trees.TableDef.{TableDef}
use Rattle.salt_audit.proofs.OneMore.{printable_more}
use Rattle.salt_audit.specs.Retelling.{retold}
use Rattle.salt_audit.specs.Transcripts.{SoFar, tables_told}
use Rattle.salt_audit.specs.declared.verdict.Law.{Law}
use Rattle.salt_events.specs.Lines.{GoesOn, line_in}
use Rattle.salt_model.specs.Naming.{IsNaming}
use Rattle.salt_model.specs.declared.events.Event.{Event}
use Rattle.salt_model.specs.declared.shown.Item.{Item}
use Rattle.salt_transcript.proofs.Onward.{Goes, goes}
use Rattle.salt_transcript.specs.Reading.{EndsBroken, EndsUnformed, GoesNowhere, GoesOnTo, HasBroken, HasRead, HasRefused, HasTaken}
use Rattle.salt_transcript.specs.declared.reader.Reader.{Reader}
use Rattle.salt_values.specs.declared.id.Id.{Id}
use Rattle.std.proofs.Common.{List, None, Option, Some, [], ap, arith, refl, sym, ℕ, ◌+◌, ◌++◌, ◌∙◌, ◌∷◌, ◌≡◌}
use Rattle.std.proofs.lemmas.List.{length-append}

-- what the laws on lines say
pub record LinesAreRead : Type 0 where
  pub read : (schema : List TableDef) (items after : List Item) (line : List ℕ) (told : Option Event) → IsNaming schema → GoesOn schema items line (after, told) →
      line_in schema items line ≡ Some (after, told)
  pub back : (schema : List TableDef) (items after : List Item) (line : List ℕ) (told : Option Event) → line_in schema items line ≡ Some (after, told) →
      GoesOn schema items line (after, told)

module _ (laws : LinesAreRead) (r : Reader) (s : SoFar) (line : List ℕ) (h : HasRead r s) where
  -- the reader's tables and items are those of what is read
  same_line : line_in (tables_told s.story) s.items line ≡ line_in r.judge.ledger.state.schema r.items line
  same_line = λ i. line_in (h.told.holds.ledger.knows.schema i) (sym h.items i) line

  told : (after : List Item) (o : Option Event) → line_in r.judge.ledger.state.schema r.items line ≡ Some (after, o) → Goes s line after o
  told after o e = goes s line after o h.showable (laws.back (tables_told s.story) s.items after line o (same_line ∙ e))

  pub item_taken : (after : List Item) (n : ℕ) → line_in r.judge.ledger.state.schema r.items line ≡ Some (after, None) → n ≡ r.lines + 1 →
      GoesOnTo (record r { items = after; lines = n }) s line
  item_taken after n e count =
      let g = told after None e in
      record {
        now = record { story = s.story; items = after };
        read = record {
          told = h.told;
          items = refl;
          events = h.events;
          lines = count ∙ ap (λ (m : ℕ). m + 1) h.lines ∙ sym g.lines;
          printable = h.printable;
          showable = g.leaves;
        };
        text = g.text;
      }

  pub event_taken : (after : List Item) (e : Event) (t : Reader) → line_in r.judge.ledger.state.schema r.items line ≡ Some (after, Some e) → HasTaken (record r { items = after }) t e →
      GoesOnTo t s line
  event_taken after e t is taken =
      let g = told after (Some e) is in
      record {
        now = record { story = s.story ++ e ∷ []; items = [] };
        read = record {
          told = taken.told s.story h.told;
          items = taken.items ∙ g.leaves.0;
          events = (let more = length-append s.story (e ∷ []) in omega (arith, more, taken.events, h.events));
          lines = taken.lines ∙ ap (λ (m : ℕ). m + 1) h.lines ∙ sym g.lines;
          printable = printable_more (retold []) s.story e h.printable g.leaves.1;
          showable = tt;
        };
        text = g.text;
      }

  pub event_refused : (after : List Item) (e : Event) (t : Reader) → line_in r.judge.ledger.state.schema r.items line ≡ Some (after, Some e) → HasRefused (record r { items = after }) t e →
      EndsUnformed t s line
  event_refused after e t is refused =
      let g = told after (Some e) is in
      record {
        event = e;
        printable = g.leaves.1;
        text = g.text;
        found = refused.found s.story h.told;
        events = refused.events ∙ h.events;
      }

  pub event_broken : (after : List Item) (e : Event) (t : Reader) (law : Law) (unit : Id) → line_in r.judge.ledger.state.schema r.items line ≡ Some (after, Some e) →
      HasBroken (record r { items = after }) t e law unit → EndsBroken t s line law unit
  event_broken after e t law unit is broken =
      let g = told after (Some e) is in
      record {
        event = e;
        printable = g.leaves.1;
        text = g.text;
        found = broken.found s.story h.told;
        events = broken.events ∙ h.events;
      }

  pub line_nowhere : (t : Reader) → line_in r.judge.ledger.state.schema r.items line ≡ None → t.lines ≡ r.lines → GoesNowhere t s line
  line_nowhere t none count = record {
    nowhere = λ after o g. let no : Some (after, o) ≡ None = sym (laws.read (tables_told s.story) s.items after line o h.told.naming g) ∙ same_line ∙ none in cc;
    lines = count ∙ h.lines;
  }
