-- Aliases, tables, nodes and threads are tested apart, and the clauses are those of `sound`.
use Rattle.std.proofs.Common.{◌≡◌, ◌≤◌, ◌<◌, ◌∙◌, ℕ, List, Bool, true, false, ◌&&◌, length, map, take, sym, ap, subst, leb, rules, arith}
use Rattle.std.specs.List.{list_all, slice_range}
use lib.Dec.{T}
use mathlib.Core.Bool.{and-false}
use borrow.Author.Tests.{le-leb, lt-leb}
use Rattle.values.specs.Lists.{firsts}
use Rattle.values.proofs.Arrays.{long}
use Rattle.values.proofs.Bools.{and_l, and_r, and_in, same_test}
use Rattle.values.proofs.ByPlace.{length_by, by_same}
use Rattle.values.proofs.Firsts.{length-firsts, take_firsts, firsts_taken}
use Rattle.std.proofs.lemmas.List.{get_or-take}
use lib.ListN.{length-map}
use Rattle.nets.specs.declared.Alias.{Alias}
use Rattle.nets.specs.declared.Node as Code
use Rattle.nets.specs.declared.Saved.{Saved}
use Rattle.nets.specs.declared.Thread as C
use Rattle.nets.specs.Nets.{Table, Node, Thread}
use Rattle.nets.specs.Tables.{rows_fit, distinct}
use Rattle.nets.specs.Sound.{table_ok, alias_ok, aliases_differ, nodes_ok, thread_ok, sound}
use Rattle.nets.specs.View.{no_alias, no_table, table_of, no_node, node_of, nodes_of, no_thread, saved_at, thread_of, thread_at, threads_of, aliases_of, tables_of, view}
use Rattle.net_parts.proofs.Counts.{front, number_within}
use Rattle.net_parts.proofs.DistinctLaws.{aliases-over}
use Rattle.net_sound.proofs.whole.sound_net.Goals as goal

-- the clauses in the order of the code
sorted : (tk fr di ao ad nd th : Bool) → ((ao && ad) && (tk && fr && di) && nd && th) ≡ (true && true && true && tk && fr && di && ao && ad && nd && th)
sorted tk fr di ao ad nd th =
    same_test ((ao && ad) && (tk && fr && di) && nd && th) (true && true && true && tk && fr && di && ao && ad && nd && th)
    (λ h. search (and_in, and_l, and_r) depth 16)
    (λ h. search (and_in, and_l, and_r) depth 16)

stopped : (lt ln lh tk fr di ao ad nd th : Bool) → false ≡ (ao && ad) → false ≡ (lt && ln && lh && tk && fr && di && ao && ad && nd && th)
stopped lt ln lh tk fr di ao ad nd th e =
    same_test false (lt && ln && lh && tk && fr && di && ao && ad && nd && th) (λ h. absurd h)
    (λ h. subst T (sym e) (search (and_in, and_l, and_r) depth 16))

module _ (xs : List Alias) (ts : List Table) (ds : List Node) (hs : List Thread) where
  all_tested : length ts ≤ 8 → length ds ≤ 128 → length hs ≤ 8 → {a b c d : Bool} → a ≡ (list_all alias_ok xs && aliases_differ xs) → b ≡ (list_all table_ok ts && list_all rows_fit ts && distinct ts)
      → c ≡ nodes_ok (length ds) 0 ds → d ≡ list_all (thread_ok ds) hs → (a && b && c && d) ≡ sound (record { aliases = xs; tables = ts; nodes = ds; threads = hs })
  unfolding sound
  all_tested h i j p q r s =
      rw (p, q, r, s, le-leb (length ts) 8 h, le-leb (length ds) 128 i, le-leb (length hs) 8 j)
      (sorted (list_all table_ok ts) (list_all rows_fit ts) (distinct ts) (list_all alias_ok xs) (aliases_differ xs) (nodes_ok (length ds) 0 ds) (list_all (thread_ok ds) hs))

  aliases-fail : false ≡ (list_all alias_ok xs && aliases_differ xs) → false ≡ sound (record { aliases = xs; tables = ts; nodes = ds; threads = hs })
  unfolding sound
  aliases-fail e =
      stopped (leb (length ts) 8) (leb (length ds) 128) (leb (length hs) 8) (list_all table_ok ts) (list_all rows_fit ts) (distinct ts) (list_all alias_ok xs) (aliases_differ xs) (nodes_ok (length ds) 0 ds) (list_all (thread_ok ds) hs) e

  tables-fail : 8 < length ts → false ≡ sound (record { aliases = xs; tables = ts; nodes = ds; threads = hs })
  unfolding sound
  tables-fail h = rw (lt-leb (length ts) 8 h)

  nodes-fail : 128 < length ds → false ≡ sound (record { aliases = xs; tables = ts; nodes = ds; threads = hs })
  unfolding sound
  nodes-fail h = rw (lt-leb (length ds) 128 h, and-false)

  threads-fail : 8 < length hs → false ≡ sound (record { aliases = xs; tables = ts; nodes = ds; threads = hs })
  unfolding sound
  threads-fail h = rw (lt-leb (length hs) 8 h, and-false)

-- ── what is in use ──

aliases-are : (n : ℕ) (l u : List Alias) → n ≤ length l → u ≡ slice_range l 0 n → u ≡ aliases_of n l
aliases-are n l u h e = e ∙ front n l ∙ take_firsts no_alias n l h

seen-are : {A B : Type 0} (f : A → B) (z : A) (n : ℕ) (l u : List A) → n ≤ length l → u ≡ slice_range l 0 n → map f u ≡ firsts f z n l
seen-are f z n l u h e = ap (map f) (e ∙ front n l) ∙ sym (firsts_taken f z n l h)

nodes-are : (n : ℕ) (l u : List Code.Node) → n ≤ length l → u ≡ slice_range l 0 n → nodes_ok (length u) 0 (map node_of u) ≡ nodes_ok (length (nodes_of n l)) 0 (nodes_of n l)
nodes-are n l u h e =
    ap (λ (k : ℕ). nodes_ok k 0 (map node_of u)) (sym (length-map u node_of)) ∙ ap (λ (d : List Node). nodes_ok (length d) 0 d) (seen-are node_of no_node n l u h e)

threads-are : (ds es : List Node) (saved : List Saved) (n : ℕ) (l u : List C.Thread) → ds ≡ es → n ≤ length l → length u ≡ n → u ≡ slice_range l 0 n
    → list_all (thread_ok ds) (threads_of ds saved (length u) u) ≡ list_all (thread_ok es) (threads_of es saved n l)
threads-are ds es saved n l u q h k e =
    rw (q, k, e, front n l)
    (ap (list_all (thread_ok es)) (by_same (thread_at es saved (take n l)) (thread_at es saved l) n (λ i m. ap (λ (t : C.Thread). thread_of (saved_at es saved i t) t) (get_or-take n l i no_thread m))))

-- ── the goals ──

pub returns-in_default : goal.returns-in_default
unfolding view
returns-in_default c =
    let net = c.args.net.now in
    let long-aliases : length net.aliases ≡ 56 = search (long, rules) in
    let over : 56 < net.aliascount = search rules in
    aliases-fail (aliases_of net.aliascount net.aliases) _ _ _ (aliases-over net.aliases 56 net.aliascount long-aliases over)

pub returns-in_default-get : goal.returns-in_default-get
unfolding view
returns-in_default-get c =
    let net = c.args.net.now in
    let eight : length net.tables ≡ 8 = search (long, rules) in
    let over : 8 < net.tablecount = search rules in
    tables-fail _ (tables_of net.tablecount net.tables) _ _ (omega (arith, length-firsts table_of no_table net.tablecount net.tables))

pub returns-in_default-get-2 : goal.returns-in_default-get-2
unfolding view
returns-in_default-get-2 c =
    let net = c.args.net.now in
    let many : length net.nodes ≡ 128 = search (long, rules) in
    let over : 128 < net.nodecount = search rules in
    nodes-fail _ _ (nodes_of net.nodecount net.nodes) _ (omega (arith, length-firsts node_of no_node net.nodecount net.nodes))

pub returns-in_default-get-3 : goal.returns-in_default-get-3
unfolding view
returns-in_default-get-3 c =
    let net = c.args.net.now in
    let eight : length net.threads ≡ 8 = search (long, rules) in
    let over : 8 < net.threadcount = search rules in
    let ds = nodes_of net.nodecount net.nodes in
    threads-fail _ _ ds (threads_of ds net.saved net.threadcount net.threads) (omega (arith, length_by (thread_at ds net.saved net.threads) 0 net.threadcount))

pub returns : goal.returns
unfolding view
returns c =
    let net = c.args.net.now in
    let ds = nodes_of net.nodecount net.nodes in
    let a = c.in-Some.ensures.lookup.0 in
    let t = c.in-Some-get.ensures.lookup.0 in
    let d = c.in-Some-get-2.ensures.lookup.0 in
    let h = c.in-Some-get-3.ensures.lookup.0 in
    let eight-tables : length net.tables ≡ 8 = search (long, rules) in
    let many-nodes : length net.nodes ≡ 128 = search (long, rules) in
    let eight-threads : length net.threads ≡ 8 = search (long, rules) in
    let tables-low : net.tablecount ≤ 8 = omega (arith, t.1) in
    let nodes-low : net.nodecount ≤ 128 = omega (arith, d.1) in
    let threads-low : net.threadcount ≤ 8 = omega (arith, h.1) in
    let tables-seen = seen-are table_of no_table net.tablecount net.tables c.in-Some-get.tables.now t.1 t.2 in
    all_tested (aliases_of net.aliascount net.aliases) (tables_of net.tablecount net.tables) ds (threads_of ds net.saved net.threadcount net.threads)
    (omega (arith, length-firsts table_of no_table net.tablecount net.tables))
    (omega (arith, length-firsts node_of no_node net.nodecount net.nodes))
    (omega (arith, length_by (thread_at ds net.saved net.threads) 0 net.threadcount))
    (c.aliases_ok.ensures ∙ ap (λ (l : List Alias). list_all alias_ok l && aliases_differ l) (aliases-are net.aliascount net.aliases c.in-Some.aliases.now a.1 a.2))
    (c.net_tables_ok.ensures ∙ sym (number_within {n = length c.in-Some-get.tables.now} {m = 8} (omega (arith, t.3)) _) ∙ ap (λ (l : List Table). list_all table_ok l && list_all rows_fit l && distinct l) tables-seen)
    (c.net_nodes_ok.ensures ∙ sym (number_within {n = length c.in-Some-get-2.nodes.now} {m = 128} (omega (arith, d.3)) _) ∙ nodes-are net.nodecount net.nodes c.in-Some-get-2.nodes.now d.1 d.2)
    (c.threads_ok.ensures ∙ sym (number_within {n = length c.in-Some-get-3.threads.now} {m = 8} (omega (arith, h.3)) _)
    ∙ threads-are (map node_of c.in-Some-get-2.nodes.now) ds net.saved net.threadcount net.threads c.in-Some-get-3.threads.now (seen-are node_of no_node net.nodecount net.nodes c.in-Some-get-2.nodes.now d.1 d.2) h.1 (omega (arith, h.3)) h.2)
