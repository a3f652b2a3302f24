-- Lines of workloads, computed from the definitions.
use Rattle.salt_ast.specs.ProgramTexts.{line_text}
use Rattle.salt_promise.specs.Workload.{load_lines, opening}
use Rattle.std.specs.Fmt.{digits}
use Rattle.std.specs.List.{slice_get}
use Rattle.std.specs.Option.{option_map}
use Rattle.std.specs.Prelude.{List, None, Option, Some, codes, length, refl, ℕ, ◌++◌, ◌≡◌}

-- the text of line i of the workload with n calls
abbrev pub text_at : (n i : ℕ) → Option (List ℕ)
text_at n i = option_map line_text (slice_get (load_lines n) i)

table_line : text_at 8 0 ≡ Some (codes "create table acct (id int key, bal int, check (bal >= 0))")
unfolding digits opening
table_line = refl

program_line :
    text_at 8 1
    ≡ Some (codes "program transfer(a int, b int, amt int) base part { update acct set bal = (bal - :amt) where key = :a } " ++
    (codes "part { update acct set bal = (bal + :amt) where key = :b } then end on failure go 3 " ++
    codes "part { update acct set bal = (bal + :amt) where key = :a } on failure end end"))
unfolding digits opening
program_line = refl

first_deposit : text_at 8 2 ≡ Some (codes "@1 insert into acct values (0, 1000)")
unfolding digits opening
first_deposit = refl

last_deposit : text_at 8 101 ≡ Some (codes "@1 insert into acct values (99, 1000)")
unfolding digits opening
last_deposit = refl

first_call : text_at 8 102 ≡ Some (codes "@2 call transfer(7, 20, 2)")
unfolding digits opening
first_call = refl

-- The end of a workload of eight calls.

eighth_call : text_at 8 109 ≡ Some (codes "@9 call transfer(56, 69, 9)")
unfolding digits opening
eighth_call = refl

turn_behind_it : text_at 8 110 ≡ Some (codes "go all")
unfolding digits opening
turn_behind_it = refl

last_of_eight : text_at 8 113 ≡ Some (codes "@64 select sum(bal) from acct")
unfolding digits opening
last_of_eight = refl

past_eight : text_at 8 114 ≡ None
unfolding digits opening
past_eight = refl

length_of_eight : length (load_lines 8) ≡ 114
unfolding opening
length_of_eight = refl

-- The end of a workload of fifty.

fiftieth_call : text_at 50 157 ≡ Some (codes "@51 call transfer(50, 63, 1)")
unfolding digits opening
fiftieth_call = refl

sum_behind_it : text_at 50 158 ≡ Some (codes "@64 select sum(bal) from acct")
unfolding digits opening
sum_behind_it = refl

first_turn_behind_it : text_at 50 159 ≡ Some (codes "go all")
unfolding digits opening
first_turn_behind_it = refl

second_turn_behind_it : text_at 50 160 ≡ Some (codes "go all")
unfolding digits opening
second_turn_behind_it = refl

length_of_fifty : length (load_lines 50) ≡ 164
unfolding opening
length_of_fifty = refl
