-- Names kept in two words each (decision 532): in the halves of the first, where a name begins and ends in the file; in those of the second,
-- the record that the search leads on to, low and high. They stand for records of eight words, in which a search is defined (decision 209).
use Rattle.std.specs.Prelude.{ℕ, ◌+◌, ◌*◌, ◌/◌, ◌%◌, Bool, true, false, List, [], ◌∷◌, length, get_or, Err, Ok, Result}
use Rattle.base.specs.Run.{run}
use Rattle.index.specs.Tree.{link_word}
use Rattle.register.specs.declared.Free.{Free}

-- 2^32
abbrev pub half : ℕ
half = 4_294_967_296

abbrev pub name_width : ℕ
name_width = 2

-- record i, as eight words
unfoldable pub widened : List ℕ → ℕ → List ℕ
widened s i =
    let name : ℕ = get_or s (i * name_width) 0 in
    let links : ℕ = get_or s (i * name_width + 1) 0 in
    name / half ∷ name % half ∷ 0 ∷ 0 ∷ 0 ∷ 0 ∷ links / half ∷ links % half ∷ []

-- all that there is room for
unfoldable pub wide : List ℕ → List ℕ
wide s = run (widened s) 0 (length s / name_width)

-- the words of a new record
unfoldable pub name_words : ℕ → ℕ → List ℕ
name_words from to = from ∷ to ∷ 0 ∷ 0 ∷ 0 ∷ 0 ∷ 0 ∷ 0 ∷ []

-- the second word, where one of its links leads to a new record
unfoldable pub relinked : Bool → ℕ → ℕ → ℕ
relinked true links new = links / half * half + new
relinked false links new = new * half + links % half

-- the outcome of a search, as `index` tells it
unfoldable pub search_of : Result ℕ Free → Result ℕ ℕ
search_of (Ok i) = Ok i
search_of (Err l) = Err (link_word l.at l.high)

-- the record that it names
unfoldable pub record_of : Result ℕ Free → ℕ
record_of (Ok i) = i
record_of (Err l) = l.at
