-- What a page that was put says of the net: it is sound, the table is there, and the bytes are its page.
use Prim.Native.Nat.{ℕ, ◌+◌, ◌*◌, ◌≤◌}
use mathlib.Core.Path.{◌≡◌, refl, sym, ap, ◌∙◌, subst}
use mathlib.Core.Bool.{Bool, true, false, cond}
use mathlib.Core.List.{List, [], ◌∷◌, ◌++◌}
use Rattle.std.specs.Prelude.{Option, None, Some}
use native.Mathlib.Omega.{arith}
use lib.Dec.{T, leb, leb→le}
use lib.ListN.{length, drop}
use borrow.Author.Tests.{le-leb}
use Rattle.values.specs.declared.Site.{Site}
use Rattle.values.proofs.Bools.{is_true}
use Rattle.values.proofs.ListLaws.{find-all}
use Rattle.rows.specs.Fit.{relation_fits}
use Rattle.nets.specs.Nets.{Table, Net}
use Rattle.nets.specs.Tables.{is_at, table_at, rows_fit}
use Rattle.nets.specs.Sound.{table_ok, sound}
use Rattle.nets.proofs.ShapeLaws.{few-columns, columns-ok, rows_ok_lem}
use Rattle.nets.proofs.SoundLaws.{clauses}
use Rattle.page_rules.specs.Pages.{page_of, PageOutcome, no_page, a_page, page_for, page}
use Rattle.page_rules.specs.Readable.{ReadsAs}
use Rattle.page_lines.proofs.LineLaws.{page-length}
use Rattle.page_lines.proofs.ReadLaws.{reads}

abbrev is_page : PageOutcome → Bool
is_page (no_page n vs) = false
is_page (a_page bs) = true

-- the table that was asked for
pub record Asked (net : Net) (site : Site) (name : ℕ) (bs : List ℕ) : Type 0 where
  pub is_sound : T (sound net)
  pub table : Table
  pub found : table_at site name net.tables ≡ Some table
  pub bytes : bs ≡ page_of table.content

abbrev bytes_put : PageOutcome → List ℕ
bytes_put (no_page n vs) = []
bytes_put (a_page bs) = bs

by_room : (t : Table) (o bs : List ℕ) → page_for (Some t) o ≡ a_page bs → bs ≡ page_of t.content
by_room t o bs e = go (leb (length (page_of t.content)) (length o)) e
  where
    go : (b : Bool) → cond b (a_page (page_of t.content)) (no_page 22 (length (page_of t.content) ∷ [])) ≡ a_page bs → bs ≡ page_of t.content
    go true e = sym (ap bytes_put e)
    go false e = absurd (subst T (sym (ap is_page e)) tt)

by_table : (net : Net) (site : Site) (name : ℕ) (o bs : List ℕ) → T (sound net) → (t : Option Table) → table_at site name net.tables ≡ t → page_for t o ≡ a_page bs → Asked net site name bs
by_table net site name o bs s None f e = absurd (subst T (sym (ap is_page e)) tt)
by_table net site name o bs s (Some t) f e = record { is_sound = s; table = t; found = f; bytes = by_room t o bs e }

pub asked : (net : Net) (site : Site) (name : ℕ) (o bs : List ℕ) → page net site name o ≡ a_page bs → Asked net site name bs
unfolding page
asked net site name o bs e = go (sound net) refl e
  where
    go : (b : Bool) → sound net ≡ b → cond b (page_for (table_at site name net.tables) o) (no_page 10 []) ≡ a_page bs → Asked net site name bs
    go true s e = by_table net site name o bs (subst T (sym s) tt) (table_at site name net.tables) refl e
    go false s e = absurd (subst T (sym (ap is_page e)) tt)

-- ── by soundness ──

pub by_sound : (net : Net) (site : Site) (name : ℕ) (o : List ℕ) (t : Bool) → t ≡ sound net → page net site name o ≡ cond t (page_for (table_at site name net.tables) o) (no_page 10 [])
unfolding page
by_sound net site name o t e = ap (λ (u : Bool). cond u (page_for (table_at site name net.tables) o) (no_page 10 [])) (sym e)

-- ── a table of a sound net ──

module _ (net : Net) (site : Site) (name : ℕ) (t : Table) (ok : T (sound net)) (found : table_at site name net.tables ≡ Some t) where
  table-ok : T (table_ok t)
  table-ok = find-all (is_at site name) table_ok net.tables t found (clauses net ok).tables

  rows_fit_lem : T (relation_fits t.content)
  rows_fit_lem = find-all (is_at site name) rows_fit net.tables t found (clauses net ok).fit

  table-reads : (xs : List ℕ) → ReadsAs (page_of t.content ++ xs) t.content
  table-reads xs = reads t.content xs (rows_ok_lem t table-ok) rows_fit_lem (leb→le (length t.content.columns) 4 (few-columns t.content.columns (columns-ok t table-ok)))

  pub table-long : length (page_of t.content) ≡ (length t.content.rows + 1) * 53
  table-long = page-length t.content (rows_ok_lem t table-ok)

  -- it has a page wherever there is room
  pub table-page : (o : List ℕ) → (length t.content.rows + 1) * 53 ≤ length o → page net site name o ≡ a_page (page_of t.content)
  unfolding page
  table-page o h =
      rw (is_true (sound net) ok, found, le-leb (length (page_of t.content)) (length o) (omega (arith, table-long))) refl

-- ── the buffer ──

pub buffer-reads : (net : Net) (site : Site) (name : ℕ) (o bs : List ℕ) (a : Asked net site name bs) → ReadsAs (bs ++ drop (length bs) o) a.table.content
buffer-reads net site name o bs a = subst (λ (l : List ℕ). ReadsAs (l ++ drop (length bs) o) a.table.content) (sym a.bytes) (table-reads net site name a.table a.is_sound a.found (drop (length bs) o))

pub asked-long : (net : Net) (site : Site) (name : ℕ) (bs : List ℕ) (a : Asked net site name bs) → length bs ≡ (length a.table.content.rows + 1) * 53
asked-long net site name bs a = ap length a.bytes ∙ table-long net site name a.table a.is_sound a.found

-- ── a refusal has a number ──

abbrev pub has_number : PageOutcome → Bool
has_number (no_page n vs) = leb 1 n
has_number (a_page bs) = true

room-numbered : (t : Option Table) (o : List ℕ) → T (has_number (page_for t o))
room-numbered None o = tt
room-numbered (Some t) o = go (leb (length (page_of t.content)) (length o))
  where
    go : (b : Bool) → T (has_number (cond b (a_page (page_of t.content)) (no_page 22 (length (page_of t.content) ∷ []))))
    go true = tt
    go false = tt

pub numbered : (net : Net) (site : Site) (name : ℕ) (o : List ℕ) → T (has_number (page net site name o))
unfolding page
numbered net site name o = go (sound net)
  where
    go : (b : Bool) → T (has_number (cond b (page_for (table_at site name net.tables) o) (no_page 10 [])))
    go true = room-numbered (table_at site name net.tables) o
    go false = tt
