-- **The theorem of the page**: whatever `page` puts reads as the table, and every table of a sound net is put where there is room.
use Prim.Native.Nat.{ℕ, ◌+◌, ◌*◌}
use mathlib.Core.Path.{◌≡◌, refl, sym, ap, ◌∙◌, subst}
use mathlib.Core.Bool.{Bool, true, false}
use mathlib.Core.List.{List}
use Rattle.std.specs.Prelude.{Result, Ok, Err}
use lib.Dec.{T}
use lib.ListN.{length}
use Rattle.values.specs.declared.Site.{Site}
use Rattle.nets.specs.declared.Net.{Net}
use Rattle.nets.specs.View.{view}
use Rattle.page_rules.specs.Pages.{PageOutcome, no_page, a_page, page, PageAnswer, page_refused, page_length, page_answer, buffer_after}
use Rattle.page_rules.specs.Readable.{ReadsAs}
use Rattle.page_lines.proofs.OutcomeLaws.{asked, buffer-reads, asked-long, table-long, table-page}
use Rattle.page.specs.declared.NotPaged.{NotPaged}
use Rattle.page.specs.declared.NotPaged.TheVariants.{Unsound, NoTable, Short}
use Rattle.page.specs.PageCall.{answer_of, Reads, PageReads, PageGiven}

abbrev is_length : PageAnswer → Bool
is_length (page_refused n vs) = false
is_length (page_length n) = true

abbrev length_in : PageAnswer → ℕ
length_in (page_refused n vs) = 0
length_in (page_length n) = n

-- ── what was put reads as the table ──

module _ (net : Net) (site : Site) (name : ℕ) (before after : List ℕ) (k : ℕ) where
  by_outcome : (p : PageOutcome) → page (view net) site name before ≡ p → page_length k ≡ page_answer p → after ≡ buffer_after before p → Reads net site name after k
  by_outcome (no_page n vs) e h b = absurd (subst T (ap is_length h) tt)
  by_outcome (a_page bs) e h b =
      let a = asked (view net) site name before bs e in
      record {
        table = a.table;
        found = a.found;
        long = ap length_in h ∙ asked-long (view net) site name bs a;
        reads = subst (λ (l : List ℕ). ReadsAs l a.table.content) (sym b) (buffer-reads (view net) site name before bs a);
      }

pub page-reads : PageReads
page-reads net site name before after k is = by_outcome net site name before after k (page (view net) site name before) refl is.answer is.buffer

-- ── each table is put ──

of_length : (r : Result ℕ NotPaged) (k : ℕ) → answer_of r ≡ page_length k → r ≡ Ok k
of_length (Ok n) k e = ap (λ (a : PageAnswer). Ok (length_in a)) e
of_length (Err Unsound) k e = absurd (subst T (sym (ap is_length e)) tt)
of_length (Err NoTable) k e = absurd (subst T (sym (ap is_length e)) tt)
of_length (Err (Short n)) k e = absurd (subst T (sym (ap is_length e)) tt)

pub page-given : PageGiven
page-given net site name before after r t is ok found h =
    of_length r ((length t.content.rows + 1) * 53)
    (is.answer ∙ ap page_answer (table-page (view net) site name t ok found before h) ∙ ap page_length (table-long (view net) site name t ok found))
