-- How a verdict is told, in a line without its end.
use Rattle.salt_audit.specs.declared.verdict.Law.TheVariants.{Honest, Salted, Whole}
use Rattle.salt_audit.specs.declared.verdict.Law.{Law}
use Rattle.salt_audit.specs.declared.verdict.Verdict.TheVariants.{Broken, NotText, Unformed, Yes}
use Rattle.salt_audit.specs.declared.verdict.Verdict.{Verdict}
use Rattle.salt_model.specs.EventTexts.{unit_text}
use Rattle.std.specs.Fmt.{decimal}
use Rattle.std.specs.Prelude.{List, codes, ℕ, ◌++◌}

abbrev pub law_words : Law → List ℕ
law_words Honest = codes "audit broken D8 "
law_words Salted = codes "audit broken D13 "
law_words Whole = codes "audit broken D14 "

abbrev pub verdict_text : Verdict → List ℕ
verdict_text (Yes events) = codes "audit yes " ++ decimal events
verdict_text (Broken law unit event) = law_words law ++ (unit_text unit ++ (codes " " ++ decimal event))
verdict_text (NotText line) = codes "audit not text " ++ decimal line
verdict_text (Unformed event) = codes "audit unformed " ++ decimal event
