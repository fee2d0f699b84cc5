-- The blocks of a sheet listed once, the lowest first, in the words of scratch after the rows (decision 530): a block stands after all
-- lower ones.
use Rattle.std.specs.Prelude.{ℕ, ◌+◌, ◌*◌, ◌≤◌, ◌<◌, ◌≡◌, Bool, true, cond, List, eqb, ltb, get_or, set}
use Rattle.base.specs.And.{◌and◌}
use Rattle.base.specs.Run.{sums}
use Rattle.sheet.specs.Containers.{block_of}
use Rattle.sheet.specs.Meaning.{flag_word}
use Rattle.sheet.specs.Valid.{is_block}
use Rattle.summary_by_aperture.specs.Kept.{kept_width}

-- record b is a block of height h, or of less
unfoldable pub is_at : List ℕ → ℕ → ℕ → Bool
is_at a h b = is_block a b and eqb (block_of a b).height h

unfoldable pub is_lower : List ℕ → ℕ → ℕ → Bool
is_lower a h b = is_block a b and ltb (block_of a b).height h

-- how many are, from record 0 on
unfoldable pub count_at : List ℕ → ℕ → ℕ → ℕ
count_at a h n = sums (λ b. flag_word (is_at a h b)) 0 n

unfoldable pub count_lower : List ℕ → ℕ → ℕ → ℕ
count_lower a h n = sums (λ b. flag_word (is_lower a h b)) 0 n

-- the word of the list's i-th block, after the rows of n records; the block at the end of a list of m
abbrev pub listed_at : List ℕ → ℕ → ℕ → ℕ
listed_at s n i = get_or s (n * kept_width + i) 0

unfoldable pub with_listed : List ℕ → ℕ → ℕ → ℕ → ℕ → List ℕ → List ℕ
with_listed a n h b m s = cond (is_at a h b) (set s (n * kept_width + m) b) s

-- record c stands among the first m
pub record Stands (s : List ℕ) (n m c : ℕ) : Type 0 where
  pub at : ℕ
  pub before : at < m
  pub is : listed_at s n at ≡ c

-- m blocks are listed: all of the n records that are lower than h, and those of height h below record b
pub record Listed (a s : List ℕ) (n h b m : ℕ) : Type 0 where
  pub few : m ≤ count_lower a h n + count_at a h b
  pub inside : (i : ℕ) → i < m → listed_at s n i < n
  pub block : (i : ℕ) → i < m → is_block a (listed_at s n i) ≡ true
  pub lower : (c : ℕ) → c < n → is_block a c ≡ true → (block_of a c).height < h → Stands s n m c
  pub same : (c : ℕ) → c < b → is_block a c ≡ true → (block_of a c).height ≡ h → Stands s n m c
  pub behind : (i : ℕ) → i < m → (c : ℕ) → c < n → is_block a c ≡ true → (block_of a c).height < (block_of a (listed_at s n i)).height → Stands s n i c
