-- What a line tells, read and back.
use Rattle.salt_ast.specs.ProgramTexts.{id_text}
use Rattle.salt_ast.specs.declared.trees.TableDef.{TableDef}
use Rattle.salt_events.proofs.Digits.{decimal_run}
use Rattle.salt_events.proofs.EventLaws.{OfStatements, event_back, event_told}
use Rattle.salt_events.proofs.ItemLaws.{IsItem, item_back, item_read}
use Rattle.salt_events.proofs.Numbers.{behind_back, map_if, then_if}
use Rattle.salt_events.proofs.PartLaws.{IsWhole, either_if, number_whole, whole_back}
use Rattle.salt_events.proofs.ValueLaws.{digit_range}
use Rattle.salt_events.specs.Fronts.{behind}
use Rattle.salt_events.specs.Items.{item_in}
use Rattle.salt_events.specs.Lines.{GoesOn, an_event, an_item, counts, event_behind, event_in, line_in, line_taken, shown_in, told_in}
use Rattle.salt_events.specs.Reading.{number_in}
use Rattle.salt_model.specs.EventTexts.{ShowsNothing, event_line}
use Rattle.salt_model.specs.Naming.{IsNaming}
use Rattle.salt_model.specs.Sized.{IsSized, IsSizedEvent, IsSizedId}
use Rattle.salt_model.specs.declared.events.Event.TheVariants as event
use Rattle.salt_model.specs.declared.events.Event.{Event}
use Rattle.salt_model.specs.declared.events.Why.TheVariants as why
use Rattle.salt_model.specs.declared.shown.Item.{Item}
use Rattle.salt_ast.specs.Bytes.{is_digit}
use Rattle.salt_ast.specs.Pieces.{EachPasses}
use Rattle.salt_values.specs.declared.id.Id.{Id}
use Rattle.std.proofs.Common.{Bool, IfSome, List, None, Option, Some, [], ap, append_assoc, arith, codes, false, length, option_map, refl, subst, true, ℕ, ◌++◌, ◌<◌, ◌==◌, ◌∙◌, ◌∷◌, ◌≡◌}
use Rattle.std.proofs.lemmas.Bool.Decides.{nat_tests}
use Rattle.std.proofs.lemmas.Fmt.{decimal_nonempty}
use Rattle.std.specs.Bool.{then_some}
use Rattle.std.specs.Fmt.{decimal}

-- READ

-- no item's line begins with the name of a unit of a program
base_begins : (schema : List TableDef) (b : Id) (x : List ℕ) → IsSizedId b → item_in schema (98 ∷ (id_text b ++ x)) ≡ None
base_begins schema b x g = ap (λ l. item_in schema (98 ∷ l)) (append_assoc (decimal b.boot) (46 ∷ decimal b.seq) x) ∙ go (decimal b.boot) (decimal_nonempty b.boot (omega arith)) (decimal_run b.boot (omega arith))
  where
    go : (ds : List ℕ) → 0 < length ds → EachPasses is_digit ds → item_in schema (98 ∷ (ds ++ (46 ∷ (decimal b.seq ++ x)))) ≡ None
    go [] some r = absurd (omega arith)
    go (d ∷ ds) some r = let k = digit_range d r.0 in let t : (97 == d) ≡ false = grind (arith, nat_tests) in rw t refl

no_item : (schema : List TableDef) (e : Event) → ShowsNothing e → IsSizedEvent e → item_in schema (event_line schema e) ≡ None
no_item schema (event.Began u k) s g = refl
no_item schema (event.Did u st a) s g = refl
no_item schema (event.Waits u os) s g = refl
no_item schema (event.Ended u e) s g = refl
no_item schema (event.Accepted b) s g = base_begins schema b (codes " accepted") g
no_item schema (event.Finished b) s g = base_begins schema b (codes " finished") g
no_item schema (event.Released bs) s g = refl
no_item schema (event.Early bs) s g = refl
no_item schema (event.Down why.Stopped) s g = refl
no_item schema (event.Down why.Fault) s g = refl
no_item schema (event.Opened boot n) s g = refl
no_item schema event.Ready s g = refl
no_item schema (event.Defined n text) s g = refl
no_item schema (event.Refused r) s g = refl
no_item schema (event.Armed pairs) s g = refl
no_item schema (event.Shown items) s g = absurd s

counts_nothing : (schema : List TableDef) (e : Event) → ShowsNothing e → behind (codes "shown ") (event_line schema e) ≡ None
counts_nothing schema (event.Began u k) s = refl
counts_nothing schema (event.Did u st a) s = refl
counts_nothing schema (event.Waits u os) s = refl
counts_nothing schema (event.Ended u e) s = refl
counts_nothing schema (event.Accepted b) s = refl
counts_nothing schema (event.Finished b) s = refl
counts_nothing schema (event.Released bs) s = refl
counts_nothing schema (event.Early bs) s = refl
counts_nothing schema (event.Down why.Stopped) s = refl
counts_nothing schema (event.Down why.Fault) s = refl
counts_nothing schema (event.Opened boot n) s = refl
counts_nothing schema event.Ready s = refl
counts_nothing schema (event.Defined n text) s = refl
counts_nothing schema (event.Refused r) s = refl
counts_nothing schema (event.Armed pairs) s = refl
counts_nothing schema (event.Shown items) s = absurd s

count_read : (items : List Item) → IsSized (length items) → shown_in items (decimal (length items)) ≡ Some (event.Shown items)
count_read items g = let t : (length items == length items) ≡ true = grind (arith, nat_tests) in rw (number_whole (length items) g) (rw t refl)

event_told_in : (schema : List TableDef) (items : List Item) (e : Event) → ShowsNothing e → items ≡ [] → event_in (event_line schema e) ≡ Some e →
    told_in items (event_line schema e) ≡ Some e
event_told_in schema [] e s none h = rw (counts_nothing schema e s) h
event_told_in schema (i ∷ is) e s none h = absurd cc

pub line_read : (laws : OfStatements) (schema : List TableDef) (items : List Item) (line : List ℕ) (r : List Item × Option Event) → IsNaming schema →
    GoesOn schema items line r → line_in schema items line ≡ Some r
line_read laws schema items line r naming (an_item i p g e) =
    rw e (rw (item_read schema naming i p g) refl)
line_read laws schema items line r naming (counts g e) = rw e (rw (count_read items g) refl)
line_read laws schema items line r naming (an_event x s none p e) =
    ap (line_in schema items) e ∙ ap (line_taken items (event_line schema x)) (no_item schema x s p.sizes)
    ∙ ap (option_map {U = List Item × Option Event} (λ l. ([], Some l))) (event_told_in schema items x s none (event_told laws schema x s p))

-- BACK

module _ (laws : OfStatements) (schema : List TableDef) where
  abbrev EndsLine : List Item → List ℕ → Event → Type 0
  EndsLine items line e = GoesOn schema items line ([], Some e)

  count_back : (items : List Item) (line x : List ℕ) → line ≡ codes "shown " ++ x → IfSome (shown_in items x) (EndsLine items line)
  count_back items line x e =
      then_if (number_in x) (λ n. then_some (n == length items) (event.Shown items)) (IsWhole x) (EndsLine items line) (whole_back x) (λ n h. go n h (n == length items) refl)
    where
      go : (n : ℕ) → IsWhole x n → (t : Bool) → (n == length items) ≡ t → IfSome (then_some t (event.Shown items)) (EndsLine items line)
      go n h true k =
          let same : n ≡ length items = grind (arith, nat_tests) in
          counts (subst IsSized same h.1) (e ∙ ap (λ l. codes "shown " ++ l) (h.0 ∙ ap decimal same))
      go n h false k = tt

  event_behind_back : (items : List Item) (line : List ℕ) → IfSome (event_behind items line) (EndsLine items line)
  event_behind_back [] line = go (event_in line) refl
    where
      go : (o : Option Event) → event_in line ≡ o → IfSome o (EndsLine [] line)
      go None h = tt
      go (Some e) h = let r = event_back laws schema line e h in an_event e r.1 refl (record { form = r.3; sizes = r.2 }) r.0
  event_behind_back (i ∷ is) line = tt

  told_back : (items : List Item) (line : List ℕ) → IfSome (told_in items line) (EndsLine items line)
  told_back items line =
      either_if (behind (codes "shown ") line) (shown_in items) (event_behind items line) (λ x. line ≡ codes "shown " ++ x) (EndsLine items line)
      (behind_back (codes "shown ") line) (λ x e. count_back items line x e) (event_behind_back items line)

  line_of_back : (items : List Item) (line : List ℕ) (o : Option Item) → IfSome o (IsItem schema line) → IfSome (line_taken items line o) (GoesOn schema items line)
  line_of_back items line None h =
      map_if (told_in items line) (λ e. ([], Some e)) (EndsLine items line) (GoesOn schema items line) (told_back items line) (λ e k. k)
  line_of_back items line (Some i) h = an_item i h.printable h.sized h.text

  pub line_back : (items : List Item) (line : List ℕ) → IfSome (line_in schema items line) (GoesOn schema items line)
  line_back items line = line_of_back items line (item_in schema line) (item_back schema line)
