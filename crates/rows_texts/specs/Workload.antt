-- The lines of a workload of two hundred calls, against texts that are made by counting on from one line to the next.
use Rattle.salt_ast.specs.ProgramTexts.{line_text}
use Rattle.salt_promise.specs.Workload.{load_lines, opening}
use Rattle.std.specs.Fmt.{decimal, digits}
use Rattle.std.specs.List.{range_with_len}
use Rattle.std.specs.Prelude.{List, [], codes, if◌then◌else◌, length, map, nat_le, refl, suc, zero, ℕ, ◌+◌, ◌++◌, ◌-◌, ◌==◌, ◌∷◌, ◌≡◌}

-- ---- the table, the program and the accounts

abbrev table_line : List ℕ
table_line = codes "create table acct (id int key, bal int, check (bal >= 0))"

abbrev program_line : List ℕ
program_line =
    codes "program transfer(a int, b int, amt int) base part { update acct set bal = (bal - :amt) where key = :a } " ++
    (codes "part { update acct set bal = (bal + :amt) where key = :b } then end on failure go 3 " ++
    codes "part { update acct set bal = (bal + :amt) where key = :a } on failure end end")

abbrev deposit_line : ℕ → List ℕ
deposit_line account = codes "@1 insert into acct values (" ++ (decimal account ++ codes ", 1000)")

abbrev first_lines : List (List ℕ)
first_lines = table_line ∷ program_line ∷ map deposit_line (range_with_len 0 100)

-- ---- the calls, with what follows them

record Count : Type 0 where
  pub session : ℕ
  pub from : ℕ
  pub to : ℕ
  pub amount : ℕ
  pub eighth : ℕ
  pub fiftieth : ℕ

-- one further, or at 1 again behind the last
abbrev round : (last number : ℕ) → ℕ
round last number = if nat_le last number then 1 else (number + 1)

-- seven accounts further, where the first follows the last of the hundred
abbrev seven_on : ℕ → ℕ
seven_on account = if nat_le 93 account then (account - 93) else (account + 7)

abbrev counted_on : Count → Count
counted_on c = record {
  session = round 63 c.session;
  from = seven_on c.from;
  to = seven_on c.to;
  amount = round 50 c.amount;
  eighth = round 8 c.eighth;
  fiftieth = round 50 c.fiftieth;
}

abbrev call_line : Count → List ℕ
call_line c =
    codes "@" ++
    (decimal c.session ++ (codes " call transfer(" ++ (decimal c.from ++ (codes ", " ++ (decimal c.to ++ (codes ", " ++ (decimal c.amount ++ codes ")")))))))

abbrev go_line : List ℕ
go_line = codes "go all"

abbrev sum_line : List ℕ
sum_line = codes "@64 select sum(bal) from acct"

abbrev lines_behind : Count → List (List ℕ)
lines_behind c = (if c.eighth == 8 then go_line ∷ [] else []) ++ (if c.fiftieth == 50 then sum_line ∷ go_line ∷ go_line ∷ [] else [])

abbrev call_lines : ℕ → Count → List (List ℕ)
call_lines zero c = []
call_lines (suc n) c = call_line (counted_on c) ∷ (lines_behind (counted_on c) ++ call_lines n (counted_on c))

abbrev start : Count
start = record { session = 1; from = 0; to = 13; amount = 1; eighth = 0; fiftieth = 0 }

-- ---- both

two_hundred_calls : map line_text (load_lines 200) ≡ first_lines ++ (call_lines 200 start ++ (go_line ∷ go_line ∷ sum_line ∷ []))
unfolding digits opening
two_hundred_calls = refl

length_of_two_hundred : length (load_lines 200) ≡ 342
unfolding opening
length_of_two_hundred = refl
