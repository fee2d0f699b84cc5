-- Word commands of both editions: the operations, what a G code sets, and Dn with an aperture number.
-- Assumes nothing.
use Prim.Native.Nat.{ℕ}
use mathlib.Core.Bool.{true, false}
use mathlib.Core.List.{List}
use lib.ListN.{drop}
use lib.Seq.{slice}
use Rattle.digits.specs.Natural.{natural_of}
use Rattle.book.specs.declared.Book.{Book}
use Rattle.formats.specs.declared.Format.{Format}
use Rattle.films.specs.Words as film
use Rattle.films.specs.declared.Word.{Word}
use Rattle.films.specs.declared.Word.TheVariants as word
use Rattle.operations.specs.Operations.{operation_in, operates, coded, uncoded, operation_of}
use Rattle.operations.specs.declared.Written.{Written}
use Rattle.words.specs.Newer.{comment_of, select_of, code_of, newer_word}
use Rattle.words.specs.Old.{setting_of, operated, said, old_word}
use Rattle.words.specs.Words.{word_of}
use Rattle.law_bounds.specs.Bounded.{SettingBounded, OperationBounded, Bounded}
use Rattle.law_bounds.proofs.Tables.{picks, judges}
use Rattle.law_bounds.proofs.Numbers.{in_range_lem}
use Rattle.law_bounds.proofs.Operations.{written_bounded}

-- what the old book's G codes set has no numbers
setting_bounded : (g : ℕ) → SettingBounded (setting_of g)
unfolding setting_of SettingBounded
setting_bounded g =
    picks SettingBounded (λ e. tt)
    (picks SettingBounded (λ e. tt)
    (picks SettingBounded (λ e. tt)
    (picks SettingBounded (λ e. tt)
    (picks SettingBounded (λ e. tt)
    (picks SettingBounded (λ e. tt)
    (picks SettingBounded (λ e. tt) (picks SettingBounded (λ e. tt) (picks SettingBounded (λ e. tt) (picks SettingBounded (λ e. tt) tt)))))))))

module _ (s : List ℕ) where
  comment_bounded : Bounded s (comment_of s)
  unfolding comment_of Bounded
  comment_bounded = picks (Bounded s) (λ e. tt) tt

  select_bounded : (t : List ℕ) → Bounded s (select_of t)
  unfolding select_of Bounded
  select_bounded t = judges (Bounded s) tt tt (in_range_lem (natural_of t))

  code_bounded : Bounded s (code_of s)
  unfolding code_of Bounded SettingBounded
  code_bounded =
      picks (Bounded s) (λ e. tt)
      (picks (Bounded s) (λ e. tt)
      (picks (Bounded s) (λ e. tt)
      (picks (Bounded s) (λ e. tt) (picks (Bounded s) (λ e. tt) (picks (Bounded s) (λ e. tt) (picks (Bounded s) (λ e. tt) tt))))))

  module _ (w : Written) (b : OperationBounded w.operation) where
    operates_bounded : Bounded s (operates w)
    unfolding operates Bounded
    operates_bounded = judges (Bounded s) tt tt (λ formed short. b)

    coded_bounded : (g : ℕ) → Bounded s (coded (setting_of g) w)
    unfolding coded Bounded
    coded_bounded g = judges (Bounded s) tt tt (λ formed short. (setting_bounded g, b))

    operated_bounded : (g : ℕ) → Bounded s (operated g w)
    unfolding operated
    operated_bounded g = picks (Bounded s) (λ e. operates_bounded) (coded_bounded g)

  module _ (f : Format) where
    operation_bounded : (number : ℕ) → Bounded s (operation_of number f s)
    unfolding operation_of
    operation_bounded number = operates_bounded (operation_in number f (uncoded s)) (written_bounded number f (uncoded s))

    newer_bounded : Bounded s (newer_word f s)
    unfolding newer_word
    newer_bounded =
        picks (Bounded s) (λ e. comment_bounded)
        (picks (Bounded s) (λ e. operation_bounded 1)
        (picks (Bounded s) (λ e. operation_bounded 2)
        (picks (Bounded s) (λ e. operation_bounded 3) (picks (Bounded s) (λ e. select_bounded (drop 1 s)) code_bounded))))

    said_bounded : (w : Word) → Bounded s (said f s w)
    unfolding said Bounded SettingBounded
    said_bounded word.NotForm = tt
    said_bounded word.Note = tt
    said_bounded word.Halt = tt
    said_bounded word.End = tt
    said_bounded (word.Code g) = setting_bounded g
    said_bounded (word.Select at) = select_bounded (drop at s)
    said_bounded (word.Operate g number from to) = operated_bounded (operation_in number f (slice from to s)) (written_bounded number f (slice from to s)) g

    pub word_bounded : (book : Book) → Bounded s (word_of book f s)
    unfolding word_of old_word
    word_bounded book = picks (Bounded s) (λ e. said_bounded (film.word_of s)) newer_bounded
