-- A story with one event more.
use Rattle.salt_audit.proofs.Amiss.{both_true}
use Rattle.salt_audit.specs.Formed.{is_formed_by, is_formed_on}
use Rattle.salt_audit.specs.Retelling.{told, told_on}
use Rattle.salt_audit.specs.Transcripts.{ArePrintableOn, lines_of_event, lines_of_events, text_on}
use Rattle.salt_model.specs.After.{kept}
use Rattle.salt_model.specs.EventTexts.{event_text}
use Rattle.salt_model.specs.Kept.{schema_of}
use Rattle.salt_model.specs.Printable.{IsPrintable}
use Rattle.salt_model.specs.Trace.{Trace}
use Rattle.salt_model.specs.declared.events.Event.{Event}
use Rattle.std.proofs.Common.{Bool, List, [], ap, append-nil, append_assoc, arith, refl, sym, true, ℕ, ◌&&◌, ◌+◌, ◌++◌, ◌∙◌, ◌∷◌, ◌≡◌}

pub told_more : (trace : Trace) (story : List Event) (e : Event) → told_on trace (story ++ e ∷ []) ≡ told (told_on trace story) e
told_more trace [] e = refl
told_more trace (a ∷ as_) e = told_more (told trace a) as_ e

pub formed_more : (trace : Trace) (story : List Event) (e : Event) → is_formed_on trace story ≡ true → is_formed_by (told_on trace story) e ≡ true →
    is_formed_on trace (story ++ e ∷ []) ≡ true
formed_more trace [] e g f = ap (λ (t : Bool). t && true) f
formed_more trace (a ∷ as_) e g f =
    let parts = both_true (is_formed_by trace a) (is_formed_on (told trace a) as_) g in
    ap (λ (t : Bool). t && is_formed_on (told trace a) (as_ ++ e ∷ [])) parts.0 ∙ formed_more (told trace a) as_ e parts.1 f

pub printable_more : (trace : Trace) (story : List Event) (e : Event) → ArePrintableOn trace story → IsPrintable (schema_of (kept (told_on trace story))) e →
    ArePrintableOn trace (story ++ e ∷ [])
printable_more trace [] e g p = (p, tt)
printable_more trace (a ∷ as_) e g p = (g.0, printable_more (told trace a) as_ e g.1 p)

pub text_more : (trace : Trace) (story : List Event) (e : Event) →
    text_on trace (story ++ e ∷ []) ≡ text_on trace story ++ event_text (schema_of (kept (told_on trace story))) e
text_more trace [] e = append-nil (event_text (schema_of (kept trace)) e)
text_more trace (a ∷ as_) e =
    ap (λ (l : List ℕ). event_text (schema_of (kept trace)) a ++ l) (text_more (told trace a) as_ e)
    ∙ sym (append_assoc (event_text (schema_of (kept trace)) a) (text_on (told trace a) as_) (event_text (schema_of (kept (told_on (told trace a) as_))) e))

pub lines_more : (story : List Event) (e : Event) → lines_of_events (story ++ e ∷ []) ≡ lines_of_events story + lines_of_event e
lines_more [] e = omega arith
lines_more (a ∷ as_) e = let more = lines_more as_ e in omega (arith, more)
