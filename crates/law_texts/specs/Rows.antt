-- Rows of texts, computed from the definitions.
use Rattle.salt_model.specs.EventTexts.{story_text}
use Rattle.law_texts.specs.Arrow.{behind_arrow}
use Rattle.law_texts.specs.Samples.{definition_story, null_story, schema}
use Rattle.law_texts.specs.Twins.{keyed, long_name, named, opened, whole}
use Rattle.std.specs.Fmt.{digits}
use Rattle.std.specs.Prelude.{List, [], codes, refl, replicate, ℕ, ◌*◌, ◌++◌, ◌^◌, ◌∷◌, ◌≡◌}

-- What stands behind the arrow of a line: an arrow within quotes is none, nor is a minus sign alone.

arrow_in_quotes : behind_arrow (codes "u1.1 did insert into t values (1, 'it''s -> b') -> count 1") ≡ codes " count 1"
arrow_in_quotes = refl

arrow_behind_minus : behind_arrow (codes "u1.1 did ensure ((1 - -2) > 0) -> true") ≡ codes " true"
arrow_behind_minus = refl

arrow_in_answer : behind_arrow (codes "u1.1 did select * from t -> rows (1, ' -> ')") ≡ codes " rows (1, ' -> ')"
arrow_in_answer = refl

-- Stories.

null_story_text :
    story_text schema null_story
    ≡ (codes "u1.1 began @1" ++ 10 ∷ []) ++
    ((codes "u1.1 did insert into t values (1, null) -> count 1" ++ 10 ∷ []) ++
    ((codes "u1.1 did select * from t -> rows (1, null)" ++ 10 ∷ []) ++ (codes "u1.1 committed 1" ++ 10 ∷ [])))
unfolding digits
null_story_text = refl

definition_story_text :
    story_text schema definition_story
    ≡ (codes "defined 1 create table t (k int key, v int null)" ++ 10 ∷ []) ++
    (codes "defined 2 program p() acid { ensure (1 is not null) } end" ++ 10 ∷ [])
unfolding digits
definition_story_text = refl

-- The texts of stories that have twins.

abbrev zeros : List ℕ
zeros = replicate 64 48

wide_number_text : story_text [] (opened (10 ^ 64)) ≡ codes "opened " ++ (zeros ++ (codes " 0" ++ 10 ∷ []))
unfolding digits
wide_number_text = refl

wide_value_text :
    story_text schema (keyed (2 * 10 ^ 64))
    ≡ codes "lock u1.1 acid read t " ++ (zeros ++ (codes ".." ++ (zeros ++ (10 ∷ (codes "shown 1" ++ 10 ∷ [])))))
unfolding digits
wide_value_text = refl

abbrev lock_line : List ℕ
lock_line = codes "lock u1.1 acid read t all" ++ 10 ∷ []

shared_name_text : story_text (named (codes "t") ∷ named (codes "t") ∷ []) (whole 1 ∷ []) ≡ lock_line ++ (codes "shown 1" ++ 10 ∷ [])
unfolding digits
shared_name_text = refl

long_name_text :
    story_text (named (codes "t") ∷ named long_name ∷ []) (whole 1 ∷ [])
    ≡ lock_line ++ ((codes "shown 1" ++ 10 ∷ []) ++ (lock_line ++ (codes "shown 1" ++ 10 ∷ [])))
unfolding digits
long_name_text = refl
