-- What a round binds ends with the round, by example: a sequential loop whose body binds anew what the loop's template reads. One list of tests over the definitions, and one proof, by computation.
use Rattle.std.specs.Prelude.{ℕ, Bool, not, ◌&&◌, List, [], ◌∷◌, T, eqb, pos, get_or, length, replicate, take, Option, None, Some, is_some}
use Rattle.values.specs.declared.Site.{Site}
use Rattle.values.specs.declared.Value.{Value}
use Rattle.values.specs.declared.Value.TheVariants.{Int, Loc}
use Rattle.values.specs.declared.Operand.{Operand}
use Rattle.values.specs.declared.Operand.TheVariants.{Absent, ConstInt, ConstText, ConstLoc, Var, Plus, Formal}
use Rattle.values.specs.Lists.{agree, or_else}
use Rattle.std.specs.List.{list_all}
use Rattle.values.specs.Values.{same_row, text_order}
use Rattle.values.specs.Operands.{values_in, bind}
use Rattle.rows.specs.declared.Test.TheVariants.{Always}
use Rattle.rows.specs.declared.Function.{Function}
use Rattle.rows.specs.declared.Function.TheVariants.{Unused, Sum}
use Rattle.rows.specs.Relations.{Row, Relation, no_relation}
use Rattle.rows.specs.Matching.{matches, hits}
use Rattle.rows.specs.Fit.{draft}
use Rattle.row_change.specs.Changes.{tuple_for, changes, selected_columns}
use Rattle.row_change.specs.Aggregates.{aggregated}
use Rattle.nets.specs.declared.Pick.{Pick}
use Rattle.nets.specs.Nets.{Kind, acting, other, insert, select, aggregate, sequential, parallel, Node, Entry, to_run, visiting, Bindings, Net}
use Rattle.nets.specs.Tables.{table_at, rows_of, distinct, change}
use Rattle.nets.specs.Sound.{no_thread, fields_ok_as, links_ok_as, sound}
use Rattle.nets.specs.Scenes.{scene_of, site_of_l, site, table, relation, source, visit, row_at, ready, any_ready, pick_ready, opens}
use Rattle.nets.specs.Steps.{reads_ok, check12, check13, check14, check15, check16, check17, check18, check19, room_for_round, check20, rows_by, tables_by, added_by, taken_by, bound_by, vars_by, bindings_by, threads_after, net_after, performed, first_refusal, checks, step}
use Rattle.nets.specs.Accounts.{next_net, after}
use Rattle.nets.specs.Examples.{CARD, is_refused, is_done_with}

-- ── the script ──

abbrev site0 : Site
site0 = record { 0 = 0 }

abbrev here : Operand
here = ConstLoc (record { 0 = 0 })

-- a node on CARD at the thread's own site, or, where `l` is absent, a loop over the table variable `read`; with its next and body, the table variable bound, T, t and T'
abbrev node : Kind → ℕ → ℕ → Operand → ℕ → ℕ → Function → List Operand → List Operand → Operand → Node
node k next body l bound read f template tuple result =
    record {
      kind = k;
      next = next;
      body = body;
      name = name_for l;
      bound = bound;
      read = read;
      function = f;
      column = 0;
      columns = [];
      locality = l;
      selector = record { template = template; test = Always; left = Absent; right = Absent };
      tuple = tuple;
      result = result;
    }
  where
    name_for : Operand → ℕ
    name_for Absent = 0
    name_for (ConstInt i) = CARD
    name_for (ConstText i) = CARD
    name_for (ConstLoc i) = CARD
    name_for (Var i) = CARD
    name_for (Plus i j) = CARD
    name_for (Formal i) = CARD

-- 0: for each row (x0, !x1) of T0 run 2, then 1; 1: insert x0 into CARD, and its entry is removed; 2: x0 becomes the sum of CARD; 3: select CARD into T1, and its entry is removed;
-- 4: for each row (!x3) of T1 run 5, and its entry is removed; 5: as 1. The loops 0 and 4 are of the kinds `k` and `j`
abbrev script : Kind → Kind → List Node
script k j =
    node k 1 2 Absent 0 0 Unused (Var 0 ∷ Formal 1 ∷ []) [] Absent
    ∷ node (acting insert) 255 0 here 0 0 Unused [] (Var 0 ∷ []) Absent
    ∷ node (other aggregate) 3 0 here 0 0 Sum (Formal 2 ∷ []) [] (Formal 0)
    ∷ node (other select) 255 0 here 1 0 Unused (Formal 2 ∷ []) (Var 2 ∷ []) Absent
    ∷ node j 255 5 Absent 0 1 Unused (Formal 3 ∷ []) [] Absent
    ∷ node (acting insert) 255 0 here 0 0 Unused [] (Var 0 ∷ []) Absent
    ∷ []

abbrev int : ℕ → Value
int n = Int (pos n)

-- T0: readings of rig 1, of rig 2 and of rig 1 again
abbrev readings : Relation
readings = record { columns = 1 ∷ 1 ∷ []; rows = (int 1 ∷ int 10 ∷ []) ∷ (int 2 ∷ int 20 ∷ []) ∷ (int 1 ∷ int 30 ∷ []) ∷ [] }

-- one row
abbrev one : ℕ → Relation
one n = record { columns = 1 ∷ []; rows = (int n ∷ []) ∷ [] }

-- what x0, T0 and T1 hold; all else is unbound
abbrev bound : ℕ → Option Relation → Option Relation → Bindings
bound n t0 t1 = record { vars = Some (int n) ∷ replicate 15 None; relations = t0 ∷ t1 ∷ [] }

-- CARD has the row 2; one thread with these bindings and this stack
abbrev net_of : Kind → Kind → Bindings → List Entry → Net
net_of k j b s =
    record {
      aliases = [];
      tables = record { site = site0; name = CARD; content = one 2 } ∷ [];
      nodes = script k j;
      threads = record { site = site0; bindings = b; stack = s } ∷ [];
    }

abbrev seq : Kind
seq = other sequential

abbrev par : Kind
par = other parallel

abbrev start : Kind → Net
start k = net_of k seq (bound 1 (Some readings) None) (to_run 0 ∷ [])

-- ── the run ──

abbrev row : ℕ → Pick
row n = record { thread = 0; row = n }

-- a round on row 0 and its body; the row of rig 2, which is refused; a round on row 2 and its body; the loop is over; the insert
abbrev picks : List Pick
picks = row 0 ∷ row 0 ∷ row 0 ∷ row 1 ∷ row 2 ∷ row 0 ∷ row 0 ∷ row 0 ∷ row 0 ∷ []

-- the net after the first `n` picks, and whether the next one is done with these counts
abbrev at : ℕ → Net
at n = after (start seq) (take n picks)

abbrev done_at : ℕ → ℕ → ℕ → Bool
done_at n a t = is_done_with a t (step (at n) (get_or picks n (row 0)))

-- of bindings: the value of a variable, no row where it is unbound; the rows of T1
abbrev value : ℕ → Row → Bindings → Bool
value i r b = same_row r (values_in (get_or b.vars i None ∷ []))

abbrev in_t1 : List Row → Bindings → Bool
in_t1 rs b = is_some (get_or b.relations 1 None) && agree same_row rs (or_else no_relation (get_or b.relations 1 None)).rows

abbrev no_t1 : Bindings → Bool
no_t1 b = not (is_some (get_or b.relations 1 None))

-- of a net: the bindings of the thread at a place, and how deep its stack is; those that the entry below its top keeps; the rows of CARD
abbrev own : ℕ → Net → Bindings
own i net = (get_or net.threads i no_thread).bindings

abbrev deep : ℕ → ℕ → Net → Bool
deep i n net = eqb n (length (get_or net.threads i no_thread).stack)

abbrev kept_by : List Entry → Bindings
kept_by (x ∷ visiting i v b ∷ s) = b
kept_by (x ∷ to_run i ∷ s) = no_thread.bindings
kept_by (x ∷ []) = no_thread.bindings
kept_by [] = no_thread.bindings

abbrev kept : Net → Bindings
kept net = kept_by (get_or net.threads 0 no_thread).stack

abbrev card : List Row → Net → Bool
card rs net = agree same_row rs (rows_of (table_at site0 CARD net.tables))

-- ── nets made by hand ──

-- x0 is 5 and T1 has the row 9; the loop 0 of kind `k` keeps x0 = 1 and the row 7 in T1. A pick of the entry `x` above it
abbrev ends : Kind → Kind → Entry → Net
ends k j x = next_net (net_of k j (bound 5 (Some readings) (Some (one 9))) (x ∷ visiting 0 [] (bound 1 (Some readings) (Some (one 7))) ∷ [])) (row 0)

-- the loop 4 is over: its entry has no row left to visit
abbrev over : Entry
over = visiting 4 [] (bound 6 (Some readings) (Some (one 9)))

-- the thread's own bindings where the loop 0 keeps `b`
abbrev keeping : Kind → Bindings → Net
keeping k b = net_of k seq (bound 5 (Some readings) None) (to_run 3 ∷ visiting 0 [] b ∷ [])

-- the entry of loop 4 above that of loop 0, which holds T0: what it keeps as T0
abbrev above : Kind → Relation → Net
above k r = net_of k seq (bound 5 (Some readings) (Some (one 3))) (to_run 5 ∷ visiting 4 [] (bound 1 (Some r) (Some (one 3))) ∷ visiting 0 [] (bound 1 (Some readings) None) ∷ [])

-- the readings, with other rows
abbrev with_rows : List Row → Relation
with_rows rs = record { columns = 1 ∷ 1 ∷ []; rows = rs }

-- ── the table ──

abbrev pub examples : List Bool
examples =
    -- the first round: x1 is the row's, the body is on the stack, and the loop's entry keeps what stood before the round
    done_at 0 0 0
    ∷ value 1 (int 10 ∷ []) (own 0 (at 1))
    ∷ value 1 [] (kept (at 1))
    ∷ value 0 (int 1 ∷ []) (kept (at 1))
    ∷ deep 0 2 (at 1)
    -- a next inside the body brings nothing back: x0 is the sum
    ∷ done_at 1 0 0
    ∷ value 0 (int 2 ∷ []) (own 0 (at 2))
    ∷ value 1 (int 10 ∷ []) (own 0 (at 2))
    -- the last step of the body ends the round: x0 is rig 1 again, x1 is unbound, and so is T1, which that step bound
    ∷ done_at 2 0 0
    ∷ value 0 (int 1 ∷ []) (own 0 (at 3))
    ∷ value 1 [] (own 0 (at 3))
    ∷ no_t1 (own 0 (at 3))
    ∷ deep 0 1 (at 3)
    -- so the next round looks for rig 1: the row of rig 2 is refused by 19
    ∷ is_refused 19 (step (at 3) (row 1))
    -- the second round, and its end
    ∷ done_at 4 0 0
    ∷ value 1 (int 30 ∷ []) (own 0 (at 5))
    ∷ value 0 (int 2 ∷ []) (own 0 (at 6))
    ∷ value 0 (int 1 ∷ []) (own 0 (at 7))
    ∷ no_t1 (own 0 (at 7))
    -- no row of rig 1 is left: the loop is over, and after it the bindings are those of its first meeting
    ∷ done_at 7 0 0
    ∷ value 0 (int 1 ∷ []) (own 0 (at 8))
    ∷ value 1 [] (own 0 (at 8))
    ∷ done_at 8 1 0
    -- a round of a parallel loop: the new thread has the row's binding and the body alone, the loop's own thread keeps its bindings
    ∷ value 1 (int 10 ∷ []) (own 1 (next_net (start par) (row 0)))
    ∷ deep 1 1 (next_net (start par) (row 0))
    ∷ value 1 [] (own 0 (next_net (start par) (row 0)))
    -- under a sequential loop's entry all bindings come back, also where the entry removed is a loop that is over; what was done to tables stays
    ∷ value 0 (int 1 ∷ []) (own 0 (ends seq seq (to_run 3)))
    ∷ in_t1 ((int 7 ∷ []) ∷ []) (own 0 (ends seq seq (to_run 3)))
    ∷ value 0 (int 1 ∷ []) (own 0 (ends seq seq over))
    ∷ in_t1 ((int 7 ∷ []) ∷ []) (own 0 (ends seq par over))
    ∷ value 0 (int 1 ∷ []) (own 0 (ends seq seq (to_run 1)))
    ∷ card ((int 2 ∷ []) ∷ (int 5 ∷ []) ∷ []) (ends seq seq (to_run 1))
    -- under a parallel loop's entry none do, nor under an entry to run, whatever stands below that
    ∷ value 0 (int 5 ∷ []) (own 0 (ends par seq (to_run 3)))
    ∷ in_t1 ((int 2 ∷ []) ∷ []) (own 0 (ends par seq (to_run 3)))
    ∷ value 0 (int 5 ∷ []) (own 0 (next_net (net_of seq seq (bound 5 (Some readings) None) (to_run 3 ∷ to_run 1 ∷ visiting 0 [] (bound 1 (Some readings) None) ∷ [])) (row 0)))
    ∷ in_t1 ((int 2 ∷ []) ∷ []) (own 0 (next_net (net_of seq seq (bound 5 (Some readings) None) (to_run 3 ∷ to_run 1 ∷ visiting 0 [] (bound 1 (Some readings) None) ∷ [])) (row 0)))
    -- what an entry keeps is not renewed by a later round
    ∷ value 0 (int 7 ∷ []) (kept (next_net (net_of seq seq (bound 1 (Some readings) None) (visiting 0 (0 ∷ []) (bound 7 (Some readings) None) ∷ [])) (row 0)))
    -- what an entry keeps agrees with the thread's own T0, which the loop holds: bound, equal columns, equal rows in order
    ∷ sound (keeping seq (bound 1 (Some readings) None))
    ∷ not (sound (keeping seq (bound 1 None None)))
    ∷ not (sound (keeping seq (bound 1 (Some (one 3)) None)))
    ∷ not (sound (keeping seq (bound 1 (Some (with_rows ((int 1 ∷ int 10 ∷ []) ∷ (int 2 ∷ int 20 ∷ []) ∷ []))) None)))
    ∷ not (sound (keeping seq (bound 1 (Some (with_rows ((int 1 ∷ int 10 ∷ []) ∷ (int 1 ∷ int 30 ∷ []) ∷ (int 2 ∷ int 20 ∷ []) ∷ []))) None)))
    ∷ not (sound (keeping seq (bound 1 (Some (with_rows ((int 1 ∷ int 10 ∷ []) ∷ (int 2 ∷ int 20 ∷ []) ∷ (int 1 ∷ int 31 ∷ []) ∷ []))) None)))
    -- T1, which nobody holds, may be anything within the limits and ranges of a thread's own
    ∷ sound (keeping seq (bound 1 (Some readings) (Some (one 3))))
    ∷ not (sound (keeping seq (bound 1 (Some readings) (Some (record { columns = []; rows = [] })))))
    ∷ not (sound (keeping seq (bound 1 (Some readings) (Some (record { columns = 1 ∷ []; rows = replicate 17 (int 1 ∷ []) })))))
    ∷ not (sound (keeping seq (bound 1 (Some readings) (Some (record { columns = 2 ∷ []; rows = (int 1 ∷ []) ∷ [] })))))
    ∷ not (sound (keeping seq (record { vars = Some (Loc (record { 0 = 8 })) ∷ replicate 15 None; relations = Some readings ∷ None ∷ [] })))
    ∷ not (sound (keeping seq (record { vars = []; relations = Some readings ∷ None ∷ [] })))
    -- of a parallel loop nothing is judged
    ∷ sound (keeping par (record { vars = []; relations = [] }))
    -- nor may it disagree on what an entry further down holds, of either kind
    ∷ sound (above seq readings)
    ∷ sound (above par readings)
    ∷ not (sound (above seq (with_rows ((int 1 ∷ int 10 ∷ []) ∷ []))))
    ∷ not (sound (above par (with_rows ((int 1 ∷ int 10 ∷ []) ∷ []))))
    ∷ []

pub examples_hold : T (list_all (λ b. b) examples)
unfolding bind text_order matches hits draft tuple_for changes selected_columns aggregated distinct change fields_ok_as links_ok_as sound scene_of site_of_l site table relation source visit row_at ready any_ready pick_ready opens reads_ok check12 check13 check14 check15 check16 check17 check18 check19 room_for_round check20 rows_by tables_by added_by taken_by bound_by vars_by bindings_by threads_after net_after performed first_refusal checks step next_net after
examples_hold = tt
