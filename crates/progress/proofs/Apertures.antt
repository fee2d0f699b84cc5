-- The table of apertures as reading knows it: a number is found where the table has it, and with a record more all that stood stays.
-- Assumes nothing.
use Rattle.std.specs.Prelude.{Err, Ok, Result, ℕ}
use Prim.Native.Nat.{ℕ, zero, suc, ◌+◌, ◌≤◌, ◌<◌}
use mathlib.Core.Path.{◌≡◌, refl, sym, ap, ◌∙◌}
use mathlib.Core.Bool.{Bool, true, false, cond}
use mathlib.Core.List.{List, [], ◌∷◌, ◌++◌}
use native.Mathlib.Nat.{zero-add}
use native.Mathlib.Numerals.{add-one}
use native.Mathlib.Omega.{arith}
use lib.Dec.{eqb}
use lib.ListN.{length}
use Rattle.base.specs.Or.{◌or◌}
use Rattle.base.specs.Run.{run}
use Rattle.base.proofs.Tests.{eqb_agree}
use Rattle.index.specs.First.{first_of}
use Rattle.index.specs.Tree.{last_link}
use Rattle.index.specs.Numbers.{number_of, numbered}
use Rattle.base.proofs.Run.{below_snoc}
use Rattle.place.specs.Mark.{Mark}
use Rattle.sheet.specs.Records.{aperture_of, aperture_room, entry_room}
use Rattle.sheet.specs.Valid.{is_block}
use Rattle.sheet.specs.declared.Aperture as store
use Rattle.law_reading.specs.State.{Aperture}
use Rattle.sheet.proofs.Apertures.{aperture_number_lem}
use Rattle.tables.specs.Added.{added}
use Rattle.tables.specs.Apertures.{aperture_words}
use Rattle.tables.proofs.Apertures.{aperture_numbered, aperture_new, aperture_kept, aperture_behind}
use Rattle.build.specs.declared.Builder.{Builder}
use Rattle.law_built_store.specs.Shown.{Shows}
use Rattle.law_built_store.proofs.Apertures.{aperture_more}
use Rattle.operation_rules.specs.Counts.{most}
use Rattle.graphics.specs.Graphics.{no_aperture}
use Rattle.graphics.specs.declared.Selected.{Selected}
use Rattle.law_reading.specs.Apertures as reading
use Rattle.law_reading.specs.Apertures.{is_taken, selected, aperture_from, aperture_with}
use Rattle.progress.specs.Tables.{as_read, ApertureTable, Chosen}
use Rattle.progress.proofs.AsRead.{number_as_read}
use Rattle.progress.proofs.Records.{records_long, records_more}
use Rattle.progress.proofs.Found.{is_found, Picked, first_picked}

-- ---- found by number

-- the record found is in use
module _ (a : List ℕ) (used n i : ℕ) (at : numbered a used n ≡ Ok i) where
  picked : Picked (λ i. eqb (number_of a i) n) used (Ok i)
  unfolding numbered
  picked = rw (zero-add used, at) at (first_picked (λ i. eqb (number_of a i) n) 0 used (last_link a used 0 n))

  pub at_below : i < used
  at_below = picked.0

abbrev chosen_by : (ℕ → Aperture) → Result ℕ ℕ → Selected
chosen_by f (Ok i) = selected i (f i)
chosen_by f (Err l) = no_aperture

module _ (f : ℕ → Aperture) (is : ℕ → Bool) (n link : ℕ) (same : (i : ℕ) → is i ≡ eqb n (f i).number) where
  taken_in_lem : (p k : ℕ) → is_taken n (run (λ i. f i ∷ []) p k) ≡ is_found (first_of is p k (Err link))
  unfolding is_taken run first_of ◌or◌
  taken_in_lem p zero = refl
  taken_in_lem p (suc k) = rw (← same p) (go (is p) (taken_in_lem (suc p) k))
    where
      go : (b : Bool) → is_taken n (run (λ i. f i ∷ []) (suc p) k) ≡ is_found (first_of is (suc p) k (Err link))
          → (b or is_taken n (run (λ i. f i ∷ []) (suc p) k)) ≡ is_found (elim b [ true ↦ Ok p | false ↦ first_of is (suc p) k (Err link) ])
      go true rest = refl
      go false rest = rest

  chosen_in : (p k : ℕ) → aperture_from p n (run (λ i. f i ∷ []) p k) ≡ chosen_by f (first_of is p k (Err link))
  unfolding aperture_from run first_of
  chosen_in p zero = refl
  chosen_in p (suc k) = rw (← same p) (go (is p) (chosen_in (suc p) k))
    where
      go : (b : Bool) → aperture_from (suc p) n (run (λ i. f i ∷ []) (suc p) k) ≡ chosen_by f (first_of is (suc p) k (Err link))
          → cond b (selected p (f p)) (aperture_from (suc p) n (run (λ i. f i ∷ []) (suc p) k))
          ≡ chosen_by f (elim b [ true ↦ Ok p | false ↦ first_of is (suc p) k (Err link) ])
      go true rest = refl
      go false rest = rest

-- a search that is answered
module _ (a : List ℕ) (used : ℕ) (known : List Aperture) (t : ApertureTable a used known) (n : ℕ) where
  abbrev f : ℕ → Aperture
  f i = as_read (aperture_of a i)

  same : (i : ℕ) → eqb (number_of a i) n ≡ eqb n (f i).number
  same i =
      let e = number_as_read (aperture_of a i) ∙ aperture_number_lem a i in
      eqb_agree (number_of a i) n n (f i).number (λ q. sym q ∙ sym e) (λ q. sym e ∙ sym q)

  pub taken_by : is_taken n known ≡ is_found (numbered a used n)
  unfolding numbered
  taken_by = ap (is_taken n) (sym t.records) ∙ taken_in_lem f (λ i. eqb (number_of a i) n) n _ same 0 used

  chosen_by_lem : aperture_with n known ≡ chosen_by f (numbered a used n)
  unfolding numbered aperture_with
  chosen_by_lem = ap (aperture_from 0 n) (sym t.records) ∙ chosen_in f (λ i. eqb (number_of a i) n) n _ same 0 used

  pub taken_at_lem : (i : ℕ) → numbered a used n ≡ Ok i → is_taken n known ≡ true
  taken_at_lem i e = taken_by ∙ ap is_found e

  pub taken_free : (link : ℕ) → numbered a used n ≡ Err link → is_taken n known ≡ false
  taken_free link e = taken_by ∙ ap is_found e

  pub with_at : (i : ℕ) → numbered a used n ≡ Ok i → aperture_with n known ≡ selected i (as_read (aperture_of a i))
  with_at i e = chosen_by_lem ∙ ap (chosen_by f) e

  pub with_free : (link : ℕ) → numbered a used n ≡ Err link → aperture_with n known ≡ no_aperture
  with_free link e = chosen_by_lem ∙ ap (chosen_by f) e

-- as many as are in use
pub known_long : (a : List ℕ) (used : ℕ) (known : List Aperture) → ApertureTable a used known → length known ≡ used
known_long a used known t = ap length (sym t.records) ∙ records_long (λ i. as_read (aperture_of a i)) used

-- ---- a record more

module _ (a : List ℕ) (used : ℕ) (known : List Aperture) (t : ApertureTable a used known) (link : ℕ) (r : store.Aperture) (room : used < aperture_room a)
    (free : numbered a used r.number ≡ Err link) where
  abbrev a' : List ℕ
  a' = added a used link (aperture_words r)

  pub record_kept : (i : ℕ) → i < used → aperture_of a' i ≡ aperture_of a i
  record_kept = aperture_kept a used link r room t.indexed free

  pub record_new : aperture_of a' used ≡ r
  record_new = aperture_new a used link r room t.indexed free

  pub table_more : r.items ≤ most → r.height ≤ 8 → ApertureTable a' (used + 1) (known ++ (as_read r ∷ []))
  table_more few low =
      rw (add-one used)
      (record {
        indexed = aperture_numbered a used link r room t.indexed free;
        records = records_more (λ i. as_read (aperture_of a i)) used (λ i. as_read (aperture_of a' i)) known (λ i l. ap as_read (record_kept i l)) t.records
            ∙ ap (λ q. known ++ (as_read q ∷ [])) record_new;
        few = below_snoc (λ i. (aperture_of a' i).items ≤ most) used (λ i l. rw (record_kept i l) (t.few i l)) (rw record_new few);
        low = below_snoc (λ i. (aperture_of a' i).height ≤ 8) used (λ i l. rw (record_kept i l) (t.low i l)) (rw record_new low);
        unused = λ k l. aperture_behind a used link r room t.indexed free k l ∙ t.unused k (omega arith);
      })

  -- one that is no block changes nothing that the store shows
  pub shows_more : (ms : List Mark) (e : List ℕ) (b : Builder) → eqb r.kind 6 ≡ false → Shows ms e a (entry_room e) used b → Shows ms e a' (entry_room e) (used + 1) b
  unfolding is_block
  shows_more ms e b other shows =
      rw (add-one used)
      (aperture_more _ e a (entry_room e) used b shows a' (λ c l. sym (record_kept c l)) (rw record_new other)
      (λ c d l m q. (aperture_numbered a used link r room t.indexed free).distinct c d l m (sym (aperture_number_lem a' c) ∙ q ∙ aperture_number_lem a' d)))

-- ---- what stays where records stay

pub chosen_kept : (a a' : List ℕ) (used used' : ℕ) (c : Selected) → ((i : ℕ) → i < used → aperture_of a' i ≡ aperture_of a i) → used ≤ used'
    → Chosen a used c → Chosen a' used' c
chosen_kept a a' used used' c same l h = record {
  unset = h.unset;
  known = λ s. let k = h.known s in omega arith;
  is = λ s. rw (same c.slot (h.known s)) (h.is s);
}
