-- The table of proved examples, (a) to (k): one list of tests over the definitions, and one proof, by computation. A second list has a fault of each
-- number of loading and a write that is read back.
use Rattle.std.specs.Prelude.{ℕ, zero, suc, Bool, false, ◌&&◌, List, [], ◌∷◌, ◌++◌, T, eqb, pos, length, drop, set, replicate}
use Rattle.values.specs.declared.Value.TheVariants.{Int, Text}
use Rattle.values.specs.Lists.{agree, places}
use Rattle.std.specs.List.{list_all}
use Rattle.values.specs.Values.{same_row, text_order}
use Rattle.values.specs.Operands.{bind}
use Rattle.rows.specs.Relations.{Row, Columns}
use Rattle.rows.specs.Matching.{matches, hits}
use Rattle.rows.specs.Fit.{draft, same_columns}
use Rattle.row_change.specs.Changes.{tuple_for, changes, selected_columns}
use Rattle.row_change.specs.Aggregates.{aggregated}
use Rattle.nets.specs.Nets.{Table, code, Node, Net, Outcome}
use Rattle.nets.specs.Tables.{distinct, change}
use Rattle.nets.specs.Sound.{is_empty, fields_ok_as, links_ok_as, sound}
use Rattle.nets.specs.Scenes.{scene_of, site_of_l, site, table, relation, source, any_ready, opens, visit, row_at, ready, pick_ready}
use Rattle.nets.specs.Steps.{reads_ok, check12, check13, check14, check15, check16, check17, check18, check19, room_for_round, check20, rows_by, tables_by, added_by, taken_by, bound_by, vars_by, bindings_by, threads_after, net_after, performed, first_refusal, checks, step}
use Rattle.nets.specs.Accounts.{next_net, after, answers}
use Rattle.nets.specs.View.{kind_at}
use Rattle.nets.specs.Examples as Nets
use Rattle.nets.specs.RoundExamples as Rounds
use Rattle.nets.specs.Examples.{CARD, is_refused, is_done_with}
use Rattle.record_bytes.specs.Bytes.{operand_form, operand_in, operands_form, operands_in}
use Rattle.record_bytes.specs.Decoding.{node_in, alias_form, table_form, row_form, node_bytes, start_form, pick_form, record_in, records_in}
use Rattle.files.specs.Loading.{load_checks, put, advance, read_all, first_bad_link, load, LoadAnswer, rejected, accepted, load_bytes, net_loaded, picks_loaded}
use Rattle.record_bytes.specs.Encoding.{tuple_bytes, table_bytes, row_bytes}
use Rattle.files.specs.Writing.{Wrote, not_written, wrote, written, write, buffer_after}

-- ── what loading answers ──

abbrev is_fault : ℕ → ℕ → LoadAnswer → Bool
is_fault n i (rejected m j) = eqb n m && eqb i j
is_fault n i (accepted net ps) = false

-- accepted, with nothing in the net and no picks
abbrev is_nothing : LoadAnswer → Bool
is_nothing (rejected n i) = false
is_nothing (accepted net ps) = is_empty net.aliases && is_empty net.tables && is_empty net.nodes && is_empty net.threads && is_empty ps

-- accepted, and its own picks are answered so
abbrev answers_are : List (Outcome → Bool) → LoadAnswer → Bool
answers_are ts (rejected n i) = false
answers_are ts (accepted net ps) = agree (λ t o. t o) ts (answers net ps)

-- accepted, and its own picks leave these tables
abbrev tables_are : List (Table → Bool) → LoadAnswer → Bool
tables_are ts (rejected n i) = false
tables_are ts (accepted net ps) = agree (λ t u. t u) ts (after net ps).tables

abbrev table_is : ℕ → ℕ → Columns → List Row → Table → Bool
table_is s n cs rs t = eqb s t.site.0 && eqb n t.name && same_columns cs t.content.columns && agree same_row rs t.content.rows

-- ── records ──

abbrev z : ℕ → List ℕ
z n = replicate n 0

abbrev copies : ℕ → List ℕ → List ℕ
copies zero l = []
copies (suc n) l = l ++ copies n l

-- 0,1→1
abbrev alias : List ℕ
alias = 1 ∷ 0 ∷ 1 ∷ 1 ∷ z 100

-- CARD at site 1, of (Text, Int)
abbrev card : List ℕ
card = 2 ∷ 1 ∷ 0 ∷ 0 ∷ 0x43 ∷ 0x41 ∷ 0x52 ∷ 0x44 ∷ 2 ∷ 1 ∷ z 94

-- `n` such tables, their names' last letters from `c` on
abbrev letters : ℕ → ℕ → List ℕ
letters zero c = []
letters (suc n) c = set card 7 c ++ letters n (suc c)

-- of CARD, with RIG1 of a tag and Int 36
abbrev row_tagged : ℕ → List ℕ
row_tagged k = 3 ∷ 1 ∷ 0 ∷ 0 ∷ 0x43 ∷ 0x41 ∷ 0x52 ∷ 0x44 ∷ z 48 ++ (k ∷ 0 ∷ 0 ∷ 0 ∷ 0x52 ∷ 0x49 ∷ 0x47 ∷ 0x31 ∷ 1 ∷ 0 ∷ 0 ∷ 0 ∷ 36 ∷ z 35)

abbrev row : List ℕ
row = row_tagged 2

-- update with T ("rig1", !x0), predicate x0 < 40, t ("RIG1", x0 + 2), L 1, next 255
abbrev update : List ℕ
update =
    21 ∷ 255 ∷ 0 ∷ 3 ∷ 0x43 ∷ 0x41 ∷ 0x52 ∷ 0x44 ∷ z 8
    ++ (3 ∷ 0 ∷ 0 ∷ 0 ∷ 1 ∷ 0 ∷ 0 ∷ 0 ∷ [])
    ++ (2 ∷ 0 ∷ 0 ∷ 0 ∷ 0x72 ∷ 0x69 ∷ 0x67 ∷ 0x31 ∷ 6 ∷ z 23)
    ++ (2 ∷ 0 ∷ 0 ∷ 0 ∷ 0x52 ∷ 0x49 ∷ 0x47 ∷ 0x31 ∷ 5 ∷ 0 ∷ 0 ∷ 0 ∷ 2 ∷ z 19)
    ++ (4 ∷ z 7)
    ++ (1 ∷ 0 ∷ 0 ∷ 0 ∷ 40 ∷ z 3)

-- site 0, node 0
abbrev start : List ℕ
start = 32 ∷ z 103

-- thread 0, row 0
abbrev pick : List ℕ
pick = 33 ∷ z 103

-- ── the table ──

abbrev file : List ℕ
file = alias ++ card ++ row ++ update ++ start ++ pick ++ pick

abbrev RIG1 : ℕ
RIG1 = 0x52494731

abbrev rigs : ℕ → List Row
rigs n = (Text RIG1 ∷ Int (pos n) ∷ []) ∷ []

abbrev pub examples : List Bool
examples =
    -- (a) no bytes: the empty net
    is_nothing (load_bytes [])
    -- (b) 103 bytes: 1 at 0
    ∷ is_fault 1 0 (load_bytes (z 103))
    -- (k) the printed run: both answers, and the one table's site, name, rows and row
    ∷ answers_are (is_done_with 1 1 ∷ is_refused 11 ∷ []) (load_bytes file)
    ∷ tables_are (table_is 1 CARD (2 ∷ 1 ∷ []) (rigs 38) ∷ []) (load_bytes file)
    -- (c) to (j), and what a round binds
    ∷ (Nets.examples ++ Rounds.examples)

-- ── faults, and what is written ──

-- a record, alone, whose byte `i` is 1: 4 at 0
abbrev spoilt : List ℕ → ℕ → Bool
spoilt r i = is_fault 4 0 (load_bytes (set r i 1))

-- accepted, with as many picks
abbrev has_picks : ℕ → LoadAnswer → Bool
has_picks n (rejected m i) = false
has_picks n (accepted net ps) = eqb n (length ps)

-- the net that the run leaves
abbrev left : Net
left = after (net_loaded (load_bytes file)) (picks_loaded (load_bytes file))

abbrev is_written : List ℕ → List ℕ → Wrote → Bool
is_written buffer end (not_written n) = false
is_written buffer end (wrote bs) = eqb (length bs) 208 && agree eqb end (drop 208 (buffer_after buffer (wrote bs)))

abbrev is_short : Wrote → Bool
is_short (not_written n) = eqb n 21
is_short (wrote bs) = false

-- a node of a kind with next 255: a body, a name, bytes 8 to 11, L, T and t, and no predicate
abbrev node : ℕ → ℕ → List ℕ → List ℕ → List ℕ → List ℕ → List ℕ → List ℕ
node k body name fields l t u = k ∷ 255 ∷ body ∷ 0 ∷ name ++ fields ++ z 4 ++ l ++ t ++ u ++ z 16

abbrev named : List ℕ
named = 0x43 ∷ 0x41 ∷ 0x52 ∷ 0x44 ∷ []

abbrev here : List ℕ
here = 3 ∷ z 7

abbrev x1 : List ℕ
x1 = 6 ∷ 1 ∷ z 30

-- one of each kind: named CARD at L 0 where it acts on a table, T !x1, t x1, in 16 Int -1, in 22 T' !x2; the loops' bodies are nodes 1 and 2
abbrev each_kind : List ℕ
each_kind =
    node 25 1 (z 4) (0 ∷ 1 ∷ 0 ∷ 0 ∷ []) (z 8) x1 (z 32)
    ++ node 26 2 (z 4) (0 ∷ 0 ∷ 0 ∷ 0 ∷ []) (z 8) x1 (z 32)
    ++ node 16 0 named (z 4) here (z 32) (1 ∷ 0 ∷ 0 ∷ 0 ∷ 255 ∷ 255 ∷ 255 ∷ 255 ∷ z 24)
    ++ node 17 0 named (0 ∷ 1 ∷ 0 ∷ 0 ∷ []) here (z 32) (z 32)
    ++ node 18 0 named (1 ∷ 0 ∷ 0 ∷ 0 ∷ []) here x1 (z 32)
    ++ node 19 0 named (1 ∷ 0 ∷ 0 ∷ 0 ∷ []) (4 ∷ 15 ∷ z 6) x1 (4 ∷ 1 ∷ z 30)
    ++ node 20 0 (z 4) (1 ∷ 1 ∷ 0 ∷ 0 ∷ []) (z 8) x1 (4 ∷ 1 ∷ z 30)
    ++ node 21 0 named (z 4) here x1 (4 ∷ 1 ∷ z 30)
    ++ node 22 0 named (0 ∷ 0 ∷ 4 ∷ 3 ∷ []) here x1 (6 ∷ 2 ∷ z 30)
    ++ node 23 0 named (1 ∷ 2 ∷ 3 ∷ 0 ∷ []) here (z 32) (z 32)
    ++ node 24 0 named (z 4) here (z 32) (z 32)

-- accepted, with nodes of these kinds
abbrev kinds_are : List ℕ → LoadAnswer → Bool
kinds_are ks (rejected n i) = false
kinds_are ks (accepted net ps) = agree (λ (k : ℕ) (d : Node). eqb k (code d.kind)) ks net.nodes

-- the bytes that the update leaves unused
abbrev unused_in_update : List ℕ
unused_in_update =
    2 ∷ places 8 8 ++ places 17 3 ++ places 21 3 ++ places 25 3 ++ places 34 6 ++ places 41 15
    ++ places 57 3 ++ places 66 2 ++ places 73 15 ++ places 90 6 ++ places 97 3

abbrev pub faults : List Bool
faults =
    -- 1 and 2 precede all records
    is_fault 1 2 (load_bytes (z 213))
    ∷ is_fault 1 257 (load_bytes (z 26729))
    ∷ is_fault 2 256 (load_bytes (z 26728))
    ∷ has_picks 256 (load_bytes (copies 256 pick))
    -- a node of each kind is accepted
    ∷ kinds_are (25 ∷ 26 ∷ 16 ∷ 17 ∷ 18 ∷ 19 ∷ 20 ∷ 21 ∷ 22 ∷ 23 ∷ 24 ∷ []) (load_bytes each_kind)
    -- 3: an unknown kind
    ∷ is_fault 3 0 (load_bytes (9 ∷ z 103))
    ∷ is_fault 3 1 (load_bytes (alias ++ (27 ∷ z 103)))
    -- 4: each unused byte, and fields that break their rule: site 8, locality 0, a name of 0x1f, a column 0 before another, tags, variable 16
    ∷ list_all (spoilt alias) (places 4 100)
    ∷ list_all (spoilt card) (2 ∷ 3 ∷ places 11 93)
    ∷ list_all (spoilt row) (2 ∷ 3 ∷ places 8 48 ++ places 57 3 ++ places 65 3 ++ places 73 31)
    ∷ list_all (spoilt update) unused_in_update
    ∷ list_all (spoilt start) (places 3 101)
    ∷ list_all (spoilt pick) (places 3 101)
    ∷ is_fault 4 0 (load_bytes (set alias 1 8))
    ∷ is_fault 4 0 (load_bytes (set alias 2 0))
    ∷ is_fault 4 0 (load_bytes (set card 7 0x1f))
    ∷ is_fault 4 0 (load_bytes (set card 8 0))
    ∷ is_fault 4 1 (load_bytes (card ++ row_tagged 3))
    ∷ is_fault 4 1 (load_bytes (card ++ row_tagged 4))
    ∷ is_fault 4 1 (load_bytes (card ++ set update 32 7))
    ∷ is_fault 4 1 (load_bytes (card ++ set update 33 16))
    ∷ is_fault 4 1 (load_bytes (card ++ set update 40 7))
    ∷ is_fault 4 1 (load_bytes (card ++ set update 3 5))
    -- 5, 6, 7, 8
    ∷ is_fault 5 1 (load_bytes (update ++ card))
    ∷ is_fault 6 1 (load_bytes (alias ++ set alias 3 2))
    ∷ is_fault 6 1 (load_bytes (card ++ set card 8 1))
    ∷ is_fault 7 0 (load_bytes row)
    ∷ is_fault 7 1 (load_bytes (card ++ row_tagged 1))
    ∷ is_fault 8 8 (load_bytes (letters 9 0x44))
    ∷ is_fault 8 17 (load_bytes (card ++ copies 17 row))
    ∷ is_fault 8 128 (load_bytes (copies 129 update))
    ∷ is_fault 8 9 (load_bytes (update ++ copies 9 start))
    -- 9: a start that names no node; a next that is not above its own node, or is none
    ∷ is_fault 9 0 (load_bytes start)
    ∷ is_fault 9 1 (load_bytes (card ++ set update 1 0 ++ start))
    ∷ is_fault 9 0 (load_bytes (set update 1 2 ++ update))
    -- the order of the checks of one record; and 9 after all others
    ∷ is_fault 4 1 (load_bytes (update ++ set card 103 1))
    ∷ is_fault 6 8 (load_bytes (letters 8 0x44 ++ card))
    ∷ is_fault 7 17 (load_bytes (card ++ copies 16 row ++ row_tagged 1))
    ∷ is_fault 3 1 (load_bytes (start ++ z 104))
    -- writing: 21, the length and the bytes after it, and the tables read back
    ∷ is_short (write left (replicate 207 7))
    ∷ is_written (replicate 210 7) (7 ∷ 7 ∷ []) (write left (replicate 210 7))
    ∷ tables_are (table_is 1 CARD (2 ∷ 1 ∷ []) (rigs 38) ∷ []) (load_bytes (written left.tables))
    ∷ []

-- all definitions that a test computes with: to unfold this is to unfold them all
opened : Unit {0}
unfolding bind text_order matches hits draft tuple_for changes selected_columns aggregated distinct change fields_ok_as links_ok_as sound scene_of site_of_l site table relation source visit row_at ready any_ready pick_ready opens reads_ok check12 check13 check14 check15 check16 check17 check18 check19 room_for_round check20 rows_by tables_by added_by taken_by bound_by vars_by bindings_by threads_after net_after performed first_refusal checks step next_net after answers kind_at operand_form operand_in operands_form operands_in node_in alias_form table_form row_form node_bytes start_form pick_form record_in records_in load_checks put advance read_all first_bad_link load load_bytes tuple_bytes table_bytes row_bytes written write
opened = tt

pub examples_hold : T (list_all (λ b. b) examples)
unfolding opened
examples_hold = tt

pub faults_hold : T (list_all (λ b. b) faults)
unfolding opened
faults_hold = tt
