-- Scripts one after another.
use Rattle.std.proofs.Common.{◌≡◌, ℕ, Bool, true, false, eqb, List, [], ◌∷◌, ◌++◌, refl, ◌∙◌, ap}
use Rattle.salt_io.proofs.Ends.{append-is-some}
use Rattle.salt_io.specs.Lines.{with_byte, pieces_of, Script, ends_in_backslash, front, spaced, before_script, last_text, without_cr, script_from, script_of}

-- these lines or pieces, and then those of that script
abbrev pub behind_lines : List (List ℕ) → Script → Script
behind_lines lines script = record { ended = lines ++ script.ended; rest = script.rest }

pieces-at_byte : (byte : ℕ) (is_lf : Bool) → eqb byte 10 ≡ is_lf → (ended : List (List ℕ)) (last b : List ℕ)
    → with_byte byte (behind_lines ended (pieces_of (last ++ b)))
    ≡ behind_lines (with_byte byte (record { ended = ended; rest = last })).ended (pieces_of ((with_byte byte (record { ended = ended; rest = last })).rest ++ b))
pieces-at_byte byte true e ended last b = rw e
pieces-at_byte byte false e [] last b = rw e (rw e)
pieces-at_byte byte false e (p ∷ ps) last b = rw e

-- the last piece goes on with the bytes behind it
pub pieces-append : (a b : List ℕ) → pieces_of (a ++ b) ≡ behind_lines (pieces_of a).ended (pieces_of ((pieces_of a).rest ++ b))
pieces-append [] b = refl
pieces-append (x ∷ xs) b = ap (with_byte x) (pieces-append xs b) ∙ pieces-at_byte x (eqb x 10) refl (pieces_of xs).ended (pieces_of xs).rest b

spaced-is-some : (xs ys : List ℕ) → spaced xs ++ ys ≡ [] → ⊥
spaced-is-some xs ys e = more (front xs) ys e where
  more : (zs ys : List ℕ) → zs ++ 32 ∷ [] ++ ys ≡ [] → ⊥
  more [] ys e = cc
  more (z ∷ zs) ys e = cc

pub last_text-nil : (piece : List ℕ) (joins : Bool) → ends_in_backslash piece ≡ joins → last_text piece ≡ [] → piece ≡ []
last_text-nil piece true e h = absurd (append-is-some (front piece) 32 (rw e at h))
last_text-nil piece false e h = rw e at h

rest-before_script : (piece : List ℕ) (joins : Bool) → ends_in_backslash piece ≡ joins → (ended : List (List ℕ)) (rest : List ℕ)
    → (before_script piece (record { ended = ended; rest = rest })).rest ≡ [] → rest ≡ []
rest-before_script piece false e ended rest h = rw e at h
rest-before_script piece true e [] rest h = absurd (spaced-is-some piece rest (rw e at h))
rest-before_script piece true e (line ∷ lines) rest h = rw e at h

-- where nothing stands behind the last line, nothing stands behind the last LF
pub last-nil : (pieces : List (List ℕ)) (last : List ℕ) → (script_from pieces last).rest ≡ [] → last ≡ []
last-nil [] last h = last_text-nil last (ends_in_backslash last) refl h
last-nil (p ∷ ps) last h =
    let script = script_from ps last in
    let piece = without_cr p in
    last-nil ps last (rest-before_script piece (ends_in_backslash piece) refl script.ended script.rest h)

before_script-behind : (piece : List ℕ) (joins : Bool) → ends_in_backslash piece ≡ joins → (ended : List (List ℕ)) (rest : List ℕ) (script : Script)
    → (before_script piece (record { ended = ended; rest = rest })).rest ≡ []
    → before_script piece (behind_lines ended script) ≡ behind_lines (before_script piece (record { ended = ended; rest = rest })).ended script
before_script-behind piece false e ended rest script h = rw e
before_script-behind piece true e [] rest script h = absurd (spaced-is-some piece rest (rw e at h))
before_script-behind piece true e (line ∷ lines) rest script h = rw e

script_from-append : (pieces others : List (List ℕ)) (last : List ℕ) → (script_from pieces []).rest ≡ []
    → script_from (pieces ++ others) last ≡ behind_lines (script_from pieces []).ended (script_from others last)
script_from-append [] others last h = refl
script_from-append (p ∷ ps) others last h =
    let script = script_from ps [] in
    let piece = without_cr p in
    let inner : script.rest ≡ [] = rest-before_script piece (ends_in_backslash piece) refl script.ended script.rest h in
    ap (before_script piece) (script_from-append ps others last inner)
    ∙ before_script-behind piece (ends_in_backslash piece) refl script.ended script.rest (script_from others last) h

-- At a line's start a script goes on as one of its own.
pub script_of-append : (a b : List ℕ) → (script_of a).rest ≡ []
    → script_of (a ++ b) ≡ record { ended = (script_of a).ended ++ (script_of b).ended; rest = (script_of b).rest }
script_of-append a b h =
    from (pieces_of a).ended (pieces_of a).rest (pieces-append a b) (last-nil (pieces_of a).ended (pieces_of a).rest h) h
  where
    from : (ended : List (List ℕ)) (last : List ℕ) → pieces_of (a ++ b) ≡ behind_lines ended (pieces_of (last ++ b)) → last ≡ [] → (script_from ended last).rest ≡ []
        → script_of (a ++ b) ≡ behind_lines (script_from ended last).ended (script_of b)
    from ended [] is none h = rw is (script_from-append ended (pieces_of b).ended (pieces_of b).rest h)
    from ended (x ∷ xs) is none h = absurd cc

before_script-prefix : (piece : List ℕ) (joins : Bool) → ends_in_backslash piece ≡ joins → (few many : Script) (more : List (List ℕ))
    → many.ended ≡ few.ended ++ more
    → (others : List (List ℕ)) × ((before_script piece many).ended ≡ (before_script piece few).ended ++ others)
before_script-prefix piece false e few many more is = (more, rw e (rw is refl))
before_script-prefix piece true e few many more is = of few.ended few.rest many.ended many.rest is where
  of : (few : List (List ℕ)) (rest : List ℕ) (many : List (List ℕ)) (rest' : List ℕ) → many ≡ few ++ more
      → (others : List (List ℕ)) × ((before_script piece (record { ended = many; rest = rest' })).ended ≡ (before_script piece (record { ended = few; rest = rest })).ended ++ others)
  of [] rest many rest' is = ((before_script piece (record { ended = many; rest = rest' })).ended, rw e refl)
  of (line ∷ lines) rest [] rest' is = absurd cc
  of (line ∷ lines) rest (l ∷ ls) rest' is = (more, rw e (let same : l ≡ line = cc in let those : ls ≡ lines ++ more = cc in rw (same, those) refl))

script_from-prefix : (pieces : List (List ℕ)) (last : List ℕ) (others : List (List ℕ)) (end : List ℕ)
    → (more : List (List ℕ)) × ((script_from (pieces ++ others) end).ended ≡ (script_from pieces last).ended ++ more)
script_from-prefix [] last others end = ((script_from others end).ended, refl)
script_from-prefix (p ∷ ps) last others end =
    let inner = script_from-prefix ps last others end in
    before_script-prefix (without_cr p) (ends_in_backslash (without_cr p)) refl (script_from ps last) (script_from (ps ++ others) end) inner.0 inner.1

-- The lines that are ended stay as they are, whatever follows.
pub ended-prefix : (a b : List ℕ) → (more : List (List ℕ)) × ((script_of (a ++ b)).ended ≡ (script_of a).ended ++ more)
ended-prefix a b =
    let behind = pieces_of ((pieces_of a).rest ++ b) in
    rw pieces-append (script_from-prefix (pieces_of a).ended (pieces_of a).rest behind.ended behind.rest)
