-- The table of macros as reading knows it: a name is found where the table has it, and with a macro more all that stood stays.
-- Assumes nothing.
use Rattle.std.specs.Prelude.{Err, Ok, Result, ℕ}
use Prim.Native.Nat.{ℕ, zero, suc, ◌+◌, ◌≤◌, ◌<◌}
use mathlib.Core.Path.{◌≡◌, refl, sym, ap, ◌∙◌}
use mathlib.Core.Bool.{Bool, true, false, cond}
use mathlib.Core.List.{List, [], ◌∷◌, ◌++◌}
use native.Mathlib.Nat.{zero-add}
use native.Mathlib.Numerals.{add-one}
use native.Mathlib.Omega.{arith}
use lib.ListN.{length}
use lib.Seq.{slice}
use Rattle.base.specs.Bytes.{same_bytes}
use Rattle.base.specs.Or.{◌or◌}
use Rattle.base.specs.Run.{run}
use Rattle.index.specs.First.{first_of}
use Rattle.index.specs.Tree.{last_link}
use Rattle.index.specs.Names.{name_of, key_of, named}
use Rattle.base.proofs.Run.{below_snoc}
use Rattle.tables.specs.Added.{added}
use Rattle.tables.specs.Macros.{macro_room, macro_of, macro_words}
use Rattle.tables.specs.declared.Macro.{Macro}
use Rattle.tables.proofs.Macros.{macro_named, macro_new, macro_kept, macro_behind}
use Rattle.law_reading.specs.State.{Template}
use Rattle.law_reading.specs.Apertures.{is_among, names_of, blocks_of}
use Rattle.progress.specs.Tables.{template_of, MacroTable}
use Rattle.progress.proofs.Records.{records_long, records_more}
use Rattle.progress.proofs.Found.{is_found, Picked, first_picked}

-- ---- found by name

-- the macro found is in use
pub macro_below : (file m : List ℕ) (used : ℕ) (name : List ℕ) (i : ℕ) → named file m used name ≡ Ok i → i < used
unfolding named
macro_below file m used name i at =
    let p : Picked (λ i. same_bytes (name_of file m i) name) used (Ok i) =
    rw (zero-add used, at) at (first_picked (λ i. same_bytes (name_of file m i) name) 0 used (last_link m used 0 (key_of name))) in
    p.0

abbrev blocks_by : (ℕ → Template) → Result ℕ ℕ → List ℕ
blocks_by f (Ok i) = (f i).blocks
blocks_by f (Err l) = []

module _ (f : ℕ → Template) (name : List ℕ) (link : ℕ) where
  abbrev is : ℕ → Bool
  is i = same_bytes (f i).name name

  among_in : (p k : ℕ) → is_among name (names_of (run (λ i. f i ∷ []) p k)) ≡ is_found (first_of is p k (Err link))
  unfolding is_among names_of run first_of ◌or◌
  among_in p zero = refl
  among_in p (suc k) = go (is p) (among_in (suc p) k)
    where
      go : (b : Bool) → is_among name (names_of (run (λ i. f i ∷ []) (suc p) k)) ≡ is_found (first_of is (suc p) k (Err link))
          → (b or is_among name (names_of (run (λ i. f i ∷ []) (suc p) k))) ≡ is_found (elim b [ true ↦ Ok p | false ↦ first_of is (suc p) k (Err link) ])
      go true rest = refl
      go false rest = rest

  blocks_in_lem : (p k : ℕ) → blocks_of name (run (λ i. f i ∷ []) p k) ≡ blocks_by f (first_of is p k (Err link))
  unfolding blocks_of run first_of
  blocks_in_lem p zero = refl
  blocks_in_lem p (suc k) = go (is p) (blocks_in_lem (suc p) k)
    where
      go : (b : Bool) → blocks_of name (run (λ i. f i ∷ []) (suc p) k) ≡ blocks_by f (first_of is (suc p) k (Err link))
          → cond b (f p).blocks (blocks_of name (run (λ i. f i ∷ []) (suc p) k))
          ≡ blocks_by f (elim b [ true ↦ Ok p | false ↦ first_of is (suc p) k (Err link) ])
      go true rest = refl
      go false rest = rest

-- a search that is answered
module _ (file m : List ℕ) (used : ℕ) (known : List Template) (t : MacroTable file m used known) (name : List ℕ) where
  abbrev f : ℕ → Template
  f i = template_of file (macro_of m i)

  search_is : named file m used name ≡ first_of (λ i. same_bytes (f i).name name) 0 used (Err (last_link m used 0 (key_of name)))
  unfolding named template_of macro_of name_of
  search_is = refl

  pub among_by : is_among name (names_of known) ≡ is_found (named file m used name)
  among_by = ap (λ l. is_among name (names_of l)) (sym t.records) ∙ among_in f name _ 0 used ∙ sym (ap is_found search_is)

  blocks_by_lem : blocks_of name known ≡ blocks_by f (named file m used name)
  blocks_by_lem = ap (blocks_of name) (sym t.records) ∙ blocks_in_lem f name _ 0 used ∙ sym (ap (blocks_by f) search_is)

  pub among_at : (i : ℕ) → named file m used name ≡ Ok i → is_among name (names_of known) ≡ true
  among_at i e = among_by ∙ ap is_found e

  pub among_free : (link : ℕ) → named file m used name ≡ Err link → is_among name (names_of known) ≡ false
  among_free link e = among_by ∙ ap is_found e

  pub blocks_at : (i : ℕ) → named file m used name ≡ Ok i → blocks_of name known ≡ slice (macro_of m i).first (macro_of m i).end file
  unfolding template_of
  blocks_at i e = blocks_by_lem ∙ ap (blocks_by f) e

-- as many as are in use
pub known_long : (file m : List ℕ) (used : ℕ) (known : List Template) → MacroTable file m used known → length known ≡ used
known_long file m used known t = ap length (sym t.records) ∙ records_long (λ i. template_of file (macro_of m i)) used

-- ---- a macro more

module _ (file m : List ℕ) (used : ℕ) (known : List Template) (t : MacroTable file m used known) (link : ℕ) (r : Macro) (room : used < macro_room m)
    (free : named file m used (slice r.from r.to file) ≡ Err link) where
  abbrev m' : List ℕ
  m' = added m used link (macro_words r)

  kept : (i : ℕ) → i < used → macro_of m' i ≡ macro_of m i
  kept = macro_kept file m used link r room t.indexed free

  new : macro_of m' used ≡ r
  new = macro_new file m used link r room t.indexed free

  pub table_more : r.first ≤ r.end → r.end ≤ length file → MacroTable file m' (used + 1) (known ++ (template_of file r ∷ []))
  table_more ordered inside =
      rw (add-one used)
      (record {
        indexed = macro_named file m used link r room t.indexed free;
        records = records_more (λ i. template_of file (macro_of m i)) used (λ i. template_of file (macro_of m' i)) known (λ i l. ap (template_of file) (kept i l)) t.records
            ∙ ap (λ q. known ++ (template_of file q ∷ [])) new;
        ordered = below_snoc (λ i. (macro_of m' i).first ≤ (macro_of m' i).end) used (λ i l. rw (kept i l) (t.ordered i l)) (rw new ordered);
        inside = below_snoc (λ i. (macro_of m' i).end ≤ length file) used (λ i l. rw (kept i l) (t.inside i l)) (rw new inside);
        unused = λ k l. macro_behind file m used link r room t.indexed free k l ∙ t.unused k (omega arith);
      })
