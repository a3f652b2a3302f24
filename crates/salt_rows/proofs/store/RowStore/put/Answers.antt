use Rattle.salt_bytes.specs.Values.{spell_values}
use Rattle.salt_directory.specs.Bytes.{row_bytes}
use Rattle.salt_directory.specs.Space.{HasRoom}
use Rattle.salt_rows.proofs.Put.{fresh_here, fresh_within}
use Rattle.salt_rows.proofs.store.RowStore.put.Goals as goal
use Rattle.salt_values.specs.declared.value.Value.{Value}
use Rattle.std.proofs.Common.{List, None, Option, ap, arith, length, subst, ℕ, ◌+◌, ◌≡◌, ◌∙◌}

pub returns-in_err-put_fresh-in-None-clause-pages : goal.returns-in_err-put_fresh-in-None-clause-pages
returns-in_err-put_fresh-in-None-clause-pages g c = λ dev named t is told.
    let x = c.args.self.now in
    let needed : c.row_room-needed.result ≡ row_bytes c.args.row.now = c.row_room-needed.ensures.is ∙ ap (λ (l : List Value). 2 + length (spell_values l)) c.as_slice.ensures in
    let full : HasRoom x.space (row_bytes c.args.row.now) None = subst (λ (o : Option ℕ). HasRoom x.space (row_bytes c.args.row.now) o) c.in-None.is (subst (λ n. HasRoom x.space n c.page_for.result) needed c.page_for.ensures) in
    fresh_within (g.D.Disks.view c.args.disks.now) x c.put_fresh.new.self dev named t is c.args.row.now told full (omega (arith, c.row_room-needed.ensures.most, needed)) c.put_fresh.ensures.count

pub returns-in_ok-put_fresh-in-None-clause-rows : goal.returns-in_ok-put_fresh-in-None-clause-rows
returns-in_ok-put_fresh-in-None-clause-rows g c = λ dev named t is none.
    fresh_here (g.D.Disks.view c.args.disks.now) c.args.self.now c.put_fresh.new.self dev named t is c.args.place c.args.row.now c.requires.key none c.in_ok-put_fresh-in-None.ensures.rows

pub returns-in_ok-put_fresh-in-None-clause-pages : goal.returns-in_ok-put_fresh-in-None-clause-pages
returns-in_ok-put_fresh-in-None-clause-pages g c = λ dev named t is told.
    let x = c.args.self.now in
    let needed : c.row_room-needed.result ≡ row_bytes c.args.row.now = c.row_room-needed.ensures.is ∙ ap (λ (l : List Value). 2 + length (spell_values l)) c.as_slice.ensures in
    let full : HasRoom x.space (row_bytes c.args.row.now) None = subst (λ (o : Option ℕ). HasRoom x.space (row_bytes c.args.row.now) o) c.in-None.is (subst (λ n. HasRoom x.space n c.page_for.result) needed c.page_for.ensures) in
    fresh_within (g.D.Disks.view c.args.disks.now) x c.put_fresh.new.self dev named t is c.args.row.now told full (omega (arith, c.row_room-needed.ensures.most, needed)) c.put_fresh.ensures.count
