-- What was found is taken on, at first and behind a fall.
use Rattle.salt_ast.specs.declared.lines.Line.{Line}
use Rattle.salt_books.specs.Books.{AreBooks}
use Rattle.salt_books.specs.declared.books.Books.{Books}
use Rattle.salt_database.specs.Finding.{IsFoundAgain, IsTakenOn}
use Rattle.salt_engine.specs.Stored.{IsEither}
use Rattle.salt_engine.specs.declared.stage.Stage.{Stage}
use Rattle.salt_engine.specs.declared.stage.Stage.TheVariants as at
use Rattle.salt_books.specs.Known.{IsKnown}
use Rattle.salt_books.specs.declared.known.Known.{Known}
use Rattle.salt_model.specs.Kept.{Kept}
use Rattle.salt_model.specs.Phases.{Phase}
use Rattle.salt_drain.specs.declared.recovery.Recovery.{Recovery}
use Rattle.salt_stands.specs.Stands.{are_spent}
use Rattle.salt_storage.specs.Storing.{IsFound, Reopens}
use Rattle.salt_storage.specs.declared.found.Found.{Found}
use Rattle.salt_storage.specs.declared.found.Numbers.{Numbers}
use Rattle.std.proofs.Common.{inl, inr, subst, sym}
use Rattle.std.specs.Prelude.{Bool, Option, Some, [], false, refl, ◌≡◌, ◌⊎◌}

-- at first
pub takes-on : (early : Bool) (x : Found) (k : Kept) (known : Known) (books : Books) (found : Option Numbers) (stage : Stage Recovery) → IsFound x k →
    are_spent x.boot x.decisions ≡ false →
    known ≡ record { schema = x.schema; catalogue = x.catalogue; conts = x.conts; boot = x.boot; decisions = x.decisions } →
    ((phase : Phase) (line : Line) → IsKnown known k →
    AreBooks books (record { kept = k; phase = phase; line = line; to_go = []; early = early; named = []; owes = false; units = []; unit_count = 0; base_count = 0 })) →
    found ≡ Some (record { boot = x.boot; decisions = x.decisions }) → stage ≡ at.Down books → IsTakenOn early k found stage
takes-on early x k known books found stage is unspent shows fresh numbered there =
    let it : IsKnown known k = subst (λ (y : Known). IsKnown y k) (sym shows) (record { schema = is.schema; catalogue = is.catalogue; conts = is.conts; boot = is.boot; decisions = is.decisions }) in
    record {
      books = books;
      numbers = record { boot = x.boot; decisions = x.decisions };
      is = numbered;
      there = there;
      fresh = λ phase line. fresh phase line it;
      numbered = record { boot = is.boot; decisions = is.decisions; unspent = unspent };
    }

-- behind a fall
pub found-again : (holds : Kept → Type 0) (x : Books) (a b : Kept) (n : Numbers) (found : Option Numbers) (stage : Stage Recovery) → found ≡ Some n → stage ≡ at.Down x →
    are_spent n.boot n.decisions ≡ false → Reopens holds n a ⊎ Reopens holds n b → IsFoundAgain holds x a b found stage
found-again holds x a b n found stage is there unspent how = by how
  where
    on : (k : Kept) → IsEither a b k → Reopens holds n k → IsFoundAgain holds x a b found stage
    on k either r = record {
      kept = k;
      numbers = n;
      either = either;
      holding = r.holding;
      is = is;
      there = there;
      numbered = record { boot = r.boot; decisions = r.decisions; unspent = unspent };
    }

    by : Reopens holds n a ⊎ Reopens holds n b → IsFoundAgain holds x a b found stage
    by (inl r) = on a (inl refl) r
    by (inr r) = on b (inr refl) r
