-- With one entry more, what was read says what the log says.
use Rattle.salt_bytes.specs.Coordinator.{Boots, Decides, Defines}
use Rattle.salt_decisions.proofs.Each.{map_push}
use Rattle.salt_decisions.specs.Entry.{decision_of}
use Rattle.salt_decisions.specs.Header.{numbered_of}
use Rattle.salt_decisions.specs.Said.{HasHeard, SaysTold, mask_of, move_of}
use Rattle.salt_decisions.specs.declared.entry.Decided.{Decided}
use Rattle.salt_decisions.specs.declared.header.Definition.{Definition}
use Rattle.salt_decisions.specs.declared.said.Said.{Said}
use Rattle.salt_stands.specs.Coordinator.{unit_of}
use Rattle.salt_stands.specs.CoordinatorLog.{Told, tell}
use Rattle.salt_values.specs.declared.id.Id.{Id}
use Rattle.std.proofs.Common.{List, Some, [], ap, refl, sym, true, ℕ, ◌+◌, ◌++◌, ◌≡◌, ◌∙◌, ◌∷◌}
use Rattle.std.specs.Prelude.{map, ◌==◌}
use Rattle.std.specs.Bool.{then_some}

next_is : {A : Type 0} (n m k : ℕ) (x : A) → (n == m + 1) ≡ true → m ≡ k → then_some (n == k + 1) x ≡ Some x
next_is n m k x fits same = ap (λ j. then_some (n == j + 1) x) (sym same) ∙ ap (λ b. then_some b x) fits

module _ (s : Said) (t : Told) (h : SaysTold s t) where
  pub heard_boot : (boot : ℕ) → (boot == s.boot + 1) ≡ true → HasHeard true (record s { boot = boot }) (tell t (Boots boot))
  heard_boot boot fits =
      let now : Told = record t { boot = boot } in (
        now,
        (next_is boot s.boot t.boot now fits h.boot, record { boot = refl; decisions = h.decisions; definitions = h.definitions; decided = h.decided; masks = h.masks; moves = h.moves }),
      )

  pub heard_definition : (d : Definition) (definitions : List Definition) → (d.number == s.decisions + 1) ≡ true → definitions ≡ s.definitions ++ d ∷ []
      → HasHeard true (record s { decisions = d.number; definitions = definitions }) (tell t (Defines (numbered_of d)))
  heard_definition d definitions fits more =
      let now : Told = record t { decisions = d.number; definitions = t.definitions ++ numbered_of d ∷ [] } in (
        now,
        (
          next_is d.number s.decisions t.decisions now fits h.decisions,
          record {
            boot = h.boot;
            decisions = refl;
            definitions = ap (map numbered_of) more ∙ map_push numbered_of s.definitions d ∙ ap (λ l. l ++ numbered_of d ∷ []) h.definitions;
            decided = h.decided;
            masks = h.masks;
            moves = h.moves;
          },
        ),
      )

  pub heard_decision : (d : Decided) (decided : List Id) (masks : List ℕ) (moves : List (List ℕ)) → (d.number == s.decisions + 1) ≡ true
      → decided ≡ s.decided ++ d.unit ∷ [] → masks ≡ s.masks ++ d.parts ∷ [] → moves ≡ s.moves ++ d.mv ∷ []
      → HasHeard true (record s { decisions = d.number; decided = decided; masks = masks; moves = moves }) (tell t (Decides (decision_of d)))
  heard_decision d decided masks moves fits more_units more_masks more_moves =
      let now : Told = record t { decisions = d.number; decided = t.decided ++ decision_of d ∷ [] } in (
        now,
        (
          next_is d.number s.decisions t.decisions now fits h.decisions,
          record {
            boot = h.boot;
            decisions = refl;
            definitions = h.definitions;
            decided = more_units ∙ ap (λ l. l ++ d.unit ∷ []) h.decided ∙ sym (map_push unit_of t.decided (decision_of d));
            masks = more_masks ∙ ap (λ l. l ++ d.parts ∷ []) h.masks ∙ sym (map_push mask_of t.decided (decision_of d));
            moves = more_moves ∙ ap (λ l. l ++ d.mv ∷ []) h.moves ∙ sym (map_push move_of t.decided (decision_of d));
          },
        ),
      )
