-- What is kept is what the log says.
use Rattle.salt_decisions.specs.Header.{numbered_of}
use Rattle.salt_decisions.specs.Kept.{IsKept}
use Rattle.salt_decisions.specs.Read.{IsOf}
use Rattle.salt_decisions.specs.Said.{text_of}
use Rattle.salt_decisions.specs.declared.header.Definition.{Definition}
use Rattle.salt_decisions.specs.declared.read.ReadLog.{ReadLog}
use Rattle.salt_stands.specs.CoordinatorLog.{CoordinatorLog}
use Rattle.std.proofs.Common.{List, [], ap, refl, ℕ, ◌≡◌, ◌∙◌, ◌∷◌}
use Rattle.std.specs.Prelude.{map}

texts_are : (ds : List Definition) → map (λ d. text_of (numbered_of d)) ds ≡ map text_of (map numbered_of ds)
texts_are [] = refl
texts_are (d ∷ ds) = ap (λ l. d.text ∷ l) (texts_are ds)

pub keeps_so : (r : ReadLog) (l : CoordinatorLog) (device : ℕ) → IsOf r l → (texts : List (List ℕ)) → texts ≡ map (λ d. text_of (numbered_of d)) r.said.definitions
    → IsKept (record { boot = r.said.boot; decisions = r.said.decisions; definitions = texts; decided = r.said.decided; masks = r.said.masks; moves = r.said.moves; conts = r.conts; format = r.format; device = device }) l
keeps_so r l device h texts is = record {
  boot = h.says.boot;
  decisions = h.says.decisions;
  definitions = is ∙ texts_are r.said.definitions ∙ ap (map text_of) h.says.definitions;
  decided = h.says.decided;
  masks = h.says.masks;
  moves = h.says.moves;
  conts = h.conts;
  format = h.format;
}
