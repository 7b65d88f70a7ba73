-- Worked calls, by computation: one table, one insert into it, one thread.
use Rattle.std.specs.Prelude.{ℕ, ◌≡◌, refl, List, [], ◌∷◌, ◌++◌, map, pos, replicate, None, Some}
use Rattle.values.specs.declared.Value.TheVariants.{Int}
use Rattle.values.specs.declared.Operand.TheVariants.{Absent}
use Rattle.values.specs.Lists.{places}
use Rattle.values.specs.Values.{text_order}
use Rattle.values.specs.Operands.{Vars, bind}
use Rattle.rows.specs.declared.Test.TheVariants.{Always}
use Rattle.rows.specs.declared.Function.TheVariants.{Unused}
use Rattle.rows.specs.Matching.{matches, hits}
use Rattle.rows.specs.Fit.{draft}
use Rattle.row_change.specs.Changes.{tuple_for, changes, selected_columns}
use Rattle.row_change.specs.Aggregates.{aggregated}
use Rattle.nets.specs.declared.Pick.{Pick}
use Rattle.nets.specs.Nets.{Kind, other, sequential, parallel, Node, to_run, visiting, Bindings, Thread, Net}
use Rattle.nets.specs.Tables.{distinct, change}
use Rattle.nets.specs.Sound.{fields_ok_as, links_ok_as, sound}
use Rattle.nets.specs.Scenes.{scene_of, site_of_l, site, table, relation, source, any_ready, opens}
use Rattle.nets.specs.Steps.{reads_ok, check12, check13, check14, check15, check16, check17, check18, check19, check20, rows_by, tables_by, added_by, taken_by, bound_by, vars_by, bindings_by, threads_after, net_after, performed, first_refusal, checks, step}
use Rattle.nets.specs.Accounts.{next_net, after, answers}
use Rattle.nets.specs.View.{kind_at}
use Rattle.record_bytes.specs.Bytes.{operand_form, operand_in, operands_form, operands_in}
use Rattle.record_bytes.specs.Decoding.{node_in, alias_form, table_form, row_form, node_bytes, start_form, pick_form, record_in, records_in}
use Rattle.record_bytes.specs.Encoding.{tuple_bytes, table_bytes, row_bytes}
use Rattle.files.specs.Loading.{load_checks, put, advance, read_all, first_bad_link, load, load_bytes}
use Rattle.files.specs.Writing.{written}
use Rattle.value_bytes.specs.Bytes.{end_to_end, eight_bytes}
use Rattle.value_decimal.specs.Decimals.{decimal, blanks}
use Rattle.page_rules.specs.Pages.{cell, line_of, sum_cell, page_of, page}
use Rattle.step_bytes.specs.AnswerBytes.{three_bytes, answer_bytes, answers_put}
use Rattle.call_rules.specs.Layouts.{visit_bytes, head_bytes, thread_bytes, tables_put, threads_put, picks_put}
use Rattle.call_rules.specs.Replies.{Called, refusing, putting, if_room_for, if_room}
use Rattle.call_rules.specs.Moments.{values_record, variable_records, relation_head, bindings_records, entry_record, thread_head, thread_records, moment_head, moment_put}
use Rattle.call_rules.specs.Traces.{trace_put, traced}
use Rattle.call_rules.specs.TablePages.{paged}
use Rattle.call_rules.specs.Calls.{on_loaded, called, buffer_in}

abbrev z : ℕ → List ℕ
z n = replicate n 0

abbrev NUMS : List ℕ
NUMS = 0x4e ∷ 0x55 ∷ 0x4d ∷ 0x53 ∷ []

-- NUMS at site 0, of (Int)
abbrev nums : List ℕ
nums = 2 ∷ z 3 ++ (NUMS ++ (1 ∷ z 95))

abbrev five : List ℕ
five = 1 ∷ z 3 ++ (5 ∷ z 3)

-- insert (5) into NUMS at the thread's own site
abbrev insert : List ℕ
insert = 16 ∷ 255 ∷ z 2 ++ (NUMS ++ (z 8 ++ (3 ∷ z 39 ++ (five ++ z 40))))

abbrev file : List ℕ
file = nums ++ (insert ++ (32 ∷ z 103))

-- thread 0, twice: the second time it has ended
abbrev twice : List ℕ
twice = z 4

-- all definitions that a call computes with: to unfold this is to unfold them all
opened : Unit {0}
unfolding bind text_order matches hits draft tuple_for changes selected_columns aggregated distinct change fields_ok_as links_ok_as sound scene_of site_of_l site table relation source any_ready opens reads_ok check12 check13 check14 check15 check16 check17 check18 check19 check20 rows_by tables_by added_by taken_by bound_by vars_by bindings_by threads_after net_after performed first_refusal checks step next_net after answers kind_at operand_form operand_in operands_form operands_in node_in alias_form table_form row_form node_bytes start_form pick_form record_in records_in load_checks put advance read_all first_bad_link load load_bytes tuple_bytes table_bytes row_bytes written eight_bytes three_bytes answer_bytes visit_bytes head_bytes thread_bytes tables_put answers_put threads_put picks_put if_room_for called values_record variable_records relation_head entry_record thread_head moment_head moment_put trace_put decimal cell line_of sum_cell page_of page paged
opened = tt

-- a call that hands out these bytes, with a buffer of n bytes
abbrev handing : (Net → List Pick → List ℕ) → ℕ → List ℕ → Called
handing bytes n picks = called (λ net ps. if_room (bytes net ps) (replicate n 7)) file picks

-- done with one row added; then 11
pub answers_to_two : handing answers_put 48 twice ≡ putting (z 8 ++ (1 ∷ z 15 ++ (11 ∷ z 23)))
unfolding opened
answers_to_two = refl

-- 48 bytes are needed
pub no_room : handing answers_put 47 twice ≡ refusing 21 48
unfolding opened
no_room = refl

-- the table, and its row
pub tables-after-two : handing tables_put 210 twice ≡ putting (nums ++ (3 ∷ z 3 ++ (NUMS ++ (z 48 ++ (five ++ z 40)))))
unfolding opened
tables-after-two = refl

-- before any pick: site 0, one entry, node 0 to run
pub thread-at-start : handing threads_put 30 [] ≡ putting (0 ∷ 1 ∷ z 22)
unfolding opened
thread-at-start = refl

pub bytes_after : buffer_in (replicate 30 7) (handing threads_put 30 []) ≡ 0 ∷ 1 ∷ z 22 ++ replicate 6 7
unfolding opened
bytes_after = refl

pub no-thread-left : handing threads_put 0 twice ≡ putting []
unfolding opened
no-thread-left = refl

-- a loop at node 3 with rows 1 and 15 still to visit, above a node to run
pub thread_in_loop : (t : Thread) → thread_bytes (record { site = record { 0 = 2 }; bindings = t.bindings; stack = visiting 3 (1 ∷ 15 ∷ []) t.bindings ∷ to_run 4 ∷ [] }) ≡ 2 ∷ 2 ∷ 1 ∷ 3 ∷ z 5 ++ (1 ∷ z 13 ++ (1 ∷ []))
unfolding opened
thread_in_loop t = refl

-- 100 comes before the file's own fault
pub odd-first : called (λ net ps. if_room (answers_put net ps) []) (z 103) (0 ∷ []) ≡ refusing 100 0
unfolding opened
odd-first = refl

pub file-fault : called (λ net ps. if_room (answers_put net ps) []) (file ++ z 104) [] ≡ refusing 3 3
unfolding opened
file-fault = refl

-- the file's own picks
pub own-picks : on_loaded (λ net own. if_room (picks_put own) (z 4)) (load_bytes (file ++ (33 ∷ 4 ∷ 255 ∷ z 101))) ≡ putting (4 ∷ 255 ∷ [])
unfolding opened
own-picks = refl

-- ── a page ──

-- NUMS after both picks: "5" and the sum "5", each at the end of 13 bytes
abbrev nums_page : List ℕ
nums_page = blanks 12 ++ (0x35 ∷ blanks 39 ++ (0x0a ∷ [])) ++ (blanks 12 ++ (0x35 ∷ blanks 39 ++ (0x0a ∷ [])))

pub page-after-two : called (λ net ps. paged (record { 0 = 0 }) 0x4e554d53 net ps (replicate 106 7)) file twice ≡ putting nums_page
unfolding opened
page-after-two = refl

-- before any pick the line of sums stands alone
pub page-at-start : called (λ net ps. paged (record { 0 = 0 }) 0x4e554d53 net ps (replicate 53 7)) file [] ≡ putting (blanks 12 ++ (0x30 ∷ blanks 39 ++ (0x0a ∷ [])))
unfolding opened
page-at-start = refl

-- 106 bytes are needed
pub page-short : called (λ net ps. paged (record { 0 = 0 }) 0x4e554d53 net ps (replicate 105 7)) file twice ≡ refusing 22 106
unfolding opened
page-short = refl

-- no table of that name, at that site
pub page-missing : called (λ net ps. paged (record { 0 = 1 }) 0x4e554d53 net ps []) file twice ≡ refusing 14 0
unfolding opened
page-missing = refl

-- ── a trace ──

-- after the insert no thread is left: the table and its row stand
abbrev inserted : List ℕ
inserted = 64 ∷ 1 ∷ 0 ∷ 0 ∷ 3 ∷ z 99 ++ (nums ++ (3 ∷ z 3 ++ (NUMS ++ (z 48 ++ (five ++ z 40)))))

-- from the first pick on, both moments left are the same: the second pick is refused
pub trace_from-one : called (λ net ps. traced 1 net ps (replicate 624 7)) file twice ≡ putting (inserted ++ inserted)
unfolding opened
trace_from-one = refl

-- there is room for one of them
pub trace_of_one : called (λ net ps. traced 1 net ps (replicate 623 7)) file twice ≡ putting inserted
unfolding opened
trace_of_one = refl

-- just enough for the last one
pub trace_of_the_last : called (λ net ps. traced 9 net ps (replicate 312 7)) file twice ≡ putting inserted
unfolding opened
trace_of_the_last = refl

pub trace_short : called (λ net ps. traced 9 net ps (replicate 311 7)) file twice ≡ refusing 21 312
unfolding opened
trace_short = refl

-- sixteen variables, none of them bound
abbrev no_variables : List ℕ
no_variables = end_to_end (map (λ (i : ℕ). 66 ∷ i ∷ z 102) (places 0 16))

-- before any pick a thread stands, with nothing bound and node 0 to run
abbrev waiting : List ℕ
waiting =
    64 ∷ 1 ∷ 1 ∷ 0 ∷ 22 ∷ z 99
    ++ (nums
    ++ (65 ∷ 0 ∷ 1 ∷ z 101
    ++ (no_variables
    ++ (67 ∷ z 103 ++ (67 ∷ 1 ∷ z 102 ++ (69 ∷ z 103))))))

pub trace_of_all : called (λ net ps. traced 0 net ps (replicate 3000 7)) file twice ≡ putting (waiting ++ (inserted ++ inserted))
unfolding opened
trace_of_all = refl

-- T0 is bound, with the row (5); T1 is not
abbrev five_in_t0 : List ℕ
five_in_t0 = 67 ∷ 0 ∷ 1 ∷ z 5 ++ (1 ∷ z 95) ++ (68 ∷ z 55 ++ (five ++ z 40) ++ (67 ∷ 1 ∷ z 102))

abbrev with_five : Vars → Bindings
with_five vs = record { vars = vs; relations = Some (record { columns = 1 ∷ []; rows = (Int (pos 5) ∷ []) ∷ [] }) ∷ None ∷ [] }

-- x1 is 5
abbrev five_in_x1 : List ℕ
five_in_x1 = 66 ∷ z 103 ++ (66 ∷ 1 ∷ z 54 ++ (five ++ z 40) ++ end_to_end (map (λ (i : ℕ). 66 ∷ i ∷ z 102) (places 2 14)))

pub bound : end_to_end (bindings_records (with_five (None ∷ Some (Int (pos 5)) ∷ []))) ≡ five_in_x1 ++ five_in_t0
unfolding opened
bound = refl

-- a loop at node 3 with row 1 still to visit
pub entry_of_loop : (b : Bindings) → entry_record (visiting 3 (1 ∷ []) b) ≡ 69 ∷ 1 ∷ 3 ∷ z 6 ++ (1 ∷ z 94)
unfolding opened
entry_of_loop b = refl

-- a thread at site 2: T1 is bound, with the rows (5) and (5); node 4 is to run
pub thread-whole : end_to_end (thread_records [] (record { site = record { 0 = 2 }; bindings = record { vars = []; relations = None ∷ Some (record { columns = 1 ∷ []; rows = (Int (pos 5) ∷ []) ∷ (Int (pos 5) ∷ []) ∷ [] }) ∷ [] }; stack = to_run 4 ∷ [] }))
    ≡ 65 ∷ 2 ∷ 1 ∷ z 101
    ++ (no_variables
    ++ (67 ∷ z 103
    ++ (67 ∷ 1 ∷ 1 ∷ z 5 ++ (1 ∷ z 95)
    ++ (68 ∷ 1 ∷ z 54 ++ (five ++ z 40)
    ++ (68 ∷ 1 ∷ z 54 ++ (five ++ z 40)
    ++ (69 ∷ 0 ∷ 4 ∷ z 101))))))
unfolding opened
thread-whole = refl

-- ── what a loop's entry holds ──

-- a loop over T0, with node 2 as its body
abbrev loop_of : Kind → Node
loop_of k =
    record {
      kind = k;
      next = 255;
      body = 2;
      name = 0;
      bound = 0;
      read = 0;
      function = Unused;
      column = 0;
      columns = [];
      locality = Absent;
      selector = record { template = []; test = Always; left = Absent; right = Absent };
      tuple = [];
      result = Absent;
    }

-- node 2 is to run, in the body of the sequential loop 0, whose entry holds that x1 is 5; below it stands the parallel loop 1, whose entry holds the same
abbrev in_body : Net
in_body =
    record {
      aliases = [];
      tables = [];
      nodes = loop_of (other sequential) ∷ loop_of (other parallel) ∷ [];
      threads =
          record {
            site = record { 0 = 2 };
            bindings = with_five [];
            stack = to_run 2 ∷ visiting 0 (1 ∷ []) (with_five (None ∷ Some (Int (pos 5)) ∷ [])) ∷ visiting 1 [] (with_five (None ∷ Some (Int (pos 5)) ∷ [])) ∷ [];
          }
          ∷ [];
    }

-- variables and table variables stand behind the record of the sequential loop, and nowhere else
pub held_in_body : moment_put in_body
    ≡ 64 ∷ 0 ∷ 1 ∷ 0 ∷ 43 ∷ z 99
    ++ (65 ∷ 2 ∷ 3 ∷ z 101
    ++ (no_variables
    ++ (five_in_t0
    ++ (69 ∷ 0 ∷ 2 ∷ z 101
    ++ (69 ∷ 1 ∷ 0 ∷ z 6 ++ (1 ∷ z 94)
    ++ (five_in_x1
    ++ (five_in_t0
    ++ (69 ∷ 1 ∷ 1 ∷ z 101))))))))
unfolding opened
held_in_body = refl
