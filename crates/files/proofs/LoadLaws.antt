-- What loading accepts is a sound net whose tables are those of the file's records. Assumes nothing.
use Prim.Native.Nat.{ℕ, suc}
use mathlib.Core.Path.{◌≡◌, refl, ap, sym, subst, ◌∙◌}
use mathlib.Core.Bool.{Bool, true, false}
use mathlib.Core.List.{List, [], ◌∷◌, ◌++◌, append-nil, append_assoc}
use Rattle.std.specs.Prelude.{Option, None, Some}
use native.Mathlib.Omega.{arith}
use lib.Dec.{T, ltb, le→leb}
use lib.ListN.{length}
use Rattle.values.specs.declared.Site.{Site}
use Rattle.std.specs.List.{list_all}
use Rattle.values.specs.Values.{site_ok}
use Rattle.values.proofs.Bools.{and_l, and_r, and_in}
use Rattle.rows.specs.Relations.{Columns}
use Rattle.nets.specs.declared.Pick.{Pick}
use Rattle.nets.specs.Nets.{Node, Thread, Net}
use Rattle.nets.specs.Tables.{table_at, rows_of, distinct}
use Rattle.nets.specs.Sound.{sound, fields_ok_as, links_ok_as, node_ok_as, nodes_ok, thread_ok}
use Rattle.nets.specs.Steps.{Check}
use Rattle.nets.proofs.StepLaws.{Passed}
use Rattle.nets.proofs.SoundLaws.{whole}
use Rattle.record_bytes.specs.Decoding.{Record, alias_record, table_record, row_record, node_record, start_record, pick_record, Decoded, good, bad}
use Rattle.files.specs.Rounds.{rounds_ended}
use Rattle.files.specs.Loading.{Progress, empty_net, nothing_read, is_new, row_fits, has_room, load_checks, fresh, put, advance, failed, failing, Reading, stopped, finished, proceed, read_all, bad_link, first_bad_link, LoadAnswer, rejected, accepted, linked, finish, load}
use Rattle.files.specs.FileTables.{rows_for1, rows_for, columns_for1, columns_for, or_later, table_with}
use Rattle.files.proofs.RecordLaws.{record_ok, decoded_ok}
use Rattle.files.proofs.PutLaws.{Good, put-good, put-rows, columns_at, or-none, put-columns, table_is_lem}

-- ── nodes and threads of the records ──

abbrev nodes_of : Record → List Node
nodes_of (alias_record a) = []
nodes_of (table_record s n cs) = []
nodes_of (row_record s n r) = []
nodes_of (node_record d) = d ∷ []
nodes_of (start_record s i) = []
nodes_of (pick_record p) = []

abbrev threads_of : Record → List Thread
threads_of (alias_record a) = []
threads_of (table_record s n cs) = []
threads_of (row_record s n r) = []
threads_of (node_record d) = []
threads_of (start_record s i) = fresh s i ∷ []
threads_of (pick_record p) = []

abbrev nodes_in : List Decoded → List Node
nodes_in [] = []
nodes_in (bad k ∷ xs) = nodes_in xs
nodes_in (good r ∷ xs) = nodes_of r ++ nodes_in xs

abbrev threads_in : List Decoded → List Thread
threads_in [] = []
threads_in (bad k ∷ xs) = threads_in xs
threads_in (good r ∷ xs) = threads_of r ++ threads_in xs

put-nodes : (net : Net) (r : Record) → (put net r).nodes ≡ net.nodes ++ nodes_of r
unfolding put
put-nodes net (alias_record a) = sym (append-nil net.nodes)
put-nodes net (table_record s n cs) = sym (append-nil net.nodes)
put-nodes net (row_record s n r) = sym (append-nil net.nodes)
put-nodes net (node_record d) = refl
put-nodes net (start_record s i) = sym (append-nil net.nodes)
put-nodes net (pick_record p) = sym (append-nil net.nodes)

put-threads : (net : Net) (r : Record) → (put net r).threads ≡ net.threads ++ threads_of r
unfolding put
put-threads net (alias_record a) = sym (append-nil net.threads)
put-threads net (table_record s n cs) = sym (append-nil net.threads)
put-threads net (row_record s n r) = sym (append-nil net.threads)
put-threads net (node_record d) = sym (append-nil net.threads)
put-threads net (start_record s i) = refl
put-threads net (pick_record p) = sym (append-nil net.threads)

-- ── record by record ──

-- checks 5 to 8 by name
record Pass (l : Progress) (r : Record) : Type 0 where
  six : T (is_new l.net r)
  seven : T (row_fits l.net r)
  eight : T (has_room l.net r)

passed_of : (ks : List Check) → failing ks ≡ None → Passed ks
passed_of [] e = tt
passed_of (k ∷ ks) e = go k.passes e (passed_of ks)
  where
    go : (b : Bool) → failed b k.number (failing ks) ≡ None → (failing ks ≡ None → Passed ks) → T b × Passed ks
    go true e ih = (tt, ih e)
    go false e ih = let z : ◌≡◌ {A = ℕ} 0 1 = cc in absurd (omega arith)

pass : (l : Progress) (r : Record) → failing (load_checks l r) ≡ None → Pass l r
unfolding load_checks
pass l r e =
    let h = passed_of (load_checks l r) e in
    record { six = search; seven = search; eight = search }

-- from `l` over the records `xs` to `m`
record Read (l : Progress) (xs : List Decoded) (m : Progress) : Type 0 where
  fine : Good m.net
  nodes : m.net.nodes ≡ l.net.nodes ++ nodes_in xs
  threads : m.net.threads ≡ l.net.threads ++ threads_in xs
  rows : (s : Site) (n : ℕ) → rows_of (table_at s n m.net.tables) ≡ rows_of (table_at s n l.net.tables) ++ rows_for s n xs
  columns : (s : Site) (n : ℕ) → columns_at (table_at s n m.net.tables) ≡ or_later (columns_at (table_at s n l.net.tables)) (columns_for s n xs)

abbrev Ends : Progress → List Decoded → Reading → Type 0
Ends l xs (stopped k i) = Unit {0}
Ends l xs (finished m) = Read l xs m

or_assoc : (a b c : Option Columns) → or_later (or_later a b) c ≡ or_later a (or_later b c)
or_assoc None b c = refl
or_assoc (Some cs) b c = refl

ends_more : (l : Progress) (r : Record) (xs : List Decoded) → Pass l r → (x : Reading) → Ends (advance l r) xs x → Ends l (good r ∷ xs) x
unfolding advance rows_for columns_for
ends_more l r xs h (stopped k i) e = tt
ends_more l r xs h (finished m) e =
    record {
      fine = e.fine;
      nodes = e.nodes ∙ ap (◌++ nodes_in xs) (put-nodes l.net r) ∙ append_assoc l.net.nodes (nodes_of r) (nodes_in xs);
      threads = e.threads ∙ ap (◌++ threads_in xs) (put-threads l.net r) ∙ append_assoc l.net.threads (threads_of r) (threads_in xs);
      rows = λ s n. e.rows s n ∙ ap (◌++ rows_for s n xs) (put-rows l.net r h.six h.seven s n) ∙ append_assoc (rows_of (table_at s n l.net.tables)) (rows_for1 s n r) (rows_for s n xs);
      columns = λ s n. e.columns s n ∙ ap (λ (o : Option Columns). or_later o (columns_for s n xs)) (put-columns l.net r h.six s n) ∙ or_assoc (columns_at (table_at s n l.net.tables)) (columns_for1 s n r) (columns_for s n xs);
    }

read : (i : ℕ) (l : Progress) (xs : List Decoded) → T (list_all decoded_ok xs) → Good l.net → Ends l xs (read_all i l xs)
unfolding read_all rows_for columns_for advance
read i l [] h g =
    record {
      fine = g;
      nodes = sym (append-nil l.net.nodes);
      threads = sym (append-nil l.net.threads);
      rows = λ s n. sym (append-nil (rows_of (table_at s n l.net.tables)));
      columns = λ s n. or-none (columns_at (table_at s n l.net.tables));
    }
read i l (bad k ∷ xs) h g = tt
read i l (good r ∷ xs) h g = go (failing (load_checks l r)) refl (read (suc i) (advance l r) xs (and_r (record_ok r) (list_all decoded_ok xs) h))
  where
    four : T (record_ok r)
    four = and_l (record_ok r) (list_all decoded_ok xs) h

    go : (o : Option ℕ) → failing (load_checks l r) ≡ o → (Good (put l.net r) → Ends (advance l r) xs (read_all (suc i) (advance l r) xs)) → Ends l (good r ∷ xs) (proceed o i (read_all (suc i) (advance l r) xs))
    go (Some n) e ih = tt
    go None e ih =
        let p = pass l r e in
        ends_more l r xs p (read_all (suc i) (advance l r) xs) (ih (put-good l.net r g four p.six p.seven p.eight))

-- ── check 9 ──

linked_of : (b : Bool) (i : ℕ) (o : Option ℕ) → bad_link b i o ≡ None → T b × (o ≡ None)
linked_of true i o e = (tt, e)
linked_of false i o e = let z : ◌≡◌ {A = ℕ} 0 1 = cc in absurd (omega arith)

links_nodes : (n i j : ℕ) (xs : List Decoded) → T (list_all decoded_ok xs) → first_bad_link n i j xs ≡ None → T (nodes_ok n j (nodes_in xs))
unfolding first_bad_link
links_nodes n i j [] h e = tt
links_nodes n i j (bad k ∷ xs) h e = links_nodes n (suc i) j xs h e
links_nodes n i j (good (alias_record a) ∷ xs) h e = links_nodes n (suc i) j xs (and_r (record_ok (alias_record a)) (list_all decoded_ok xs) h) e
links_nodes n i j (good (table_record s m cs) ∷ xs) h e = links_nodes n (suc i) j xs (and_r (record_ok (table_record s m cs)) (list_all decoded_ok xs) h) e
links_nodes n i j (good (row_record s m r) ∷ xs) h e = links_nodes n (suc i) j xs (and_r (record_ok (row_record s m r)) (list_all decoded_ok xs) h) e
links_nodes n i j (good (node_record d) ∷ xs) h e =
    let q = linked_of (links_ok_as d.kind n j d) i (first_bad_link n (suc i) (suc j) xs) e in
    and_in (node_ok_as d.kind n j d) (nodes_ok n (suc j) (nodes_in xs))
    (and_in (fields_ok_as d.kind d) (links_ok_as d.kind n j d) (and_l (fields_ok_as d.kind d) (list_all decoded_ok xs) h) q.0)
    (links_nodes n (suc i) (suc j) xs (and_r (fields_ok_as d.kind d) (list_all decoded_ok xs) h) q.1)
links_nodes n i j (good (start_record s k) ∷ xs) h e =
    links_nodes n (suc i) j xs (and_r (site_ok s) (list_all decoded_ok xs) h) (linked_of (ltb k n) i (first_bad_link n (suc i) j xs) e).1
links_nodes n i j (good (pick_record p) ∷ xs) h e = links_nodes n (suc i) j xs h e

fresh_ok : (ds : List Node) (s : Site) (k : ℕ) → T (site_ok s) → T (ltb k (length ds)) → T (thread_ok ds (fresh s k))
fresh_ok ds s k h l = search and_in depth 10

-- a thread that starts is in no round
starts-ended : (ds : List Node) (xs : List Decoded) → rounds_ended ds (threads_in xs)
starts-ended ds [] = tt
starts-ended ds (bad k ∷ xs) = starts-ended ds xs
starts-ended ds (good (alias_record a) ∷ xs) = starts-ended ds xs
starts-ended ds (good (table_record s m cs) ∷ xs) = starts-ended ds xs
starts-ended ds (good (row_record s m r) ∷ xs) = starts-ended ds xs
starts-ended ds (good (node_record d) ∷ xs) = starts-ended ds xs
starts-ended ds (good (start_record s k) ∷ xs) = (tt, starts-ended ds xs)
starts-ended ds (good (pick_record p) ∷ xs) = starts-ended ds xs

links_threads : (ds : List Node) (i j : ℕ) (xs : List Decoded) → T (list_all decoded_ok xs) → first_bad_link (length ds) i j xs ≡ None → T (list_all (thread_ok ds) (threads_in xs))
unfolding first_bad_link
links_threads ds i j [] h e = tt
links_threads ds i j (bad k ∷ xs) h e = links_threads ds (suc i) j xs h e
links_threads ds i j (good (alias_record a) ∷ xs) h e = links_threads ds (suc i) j xs (and_r (record_ok (alias_record a)) (list_all decoded_ok xs) h) e
links_threads ds i j (good (table_record s m cs) ∷ xs) h e = links_threads ds (suc i) j xs (and_r (record_ok (table_record s m cs)) (list_all decoded_ok xs) h) e
links_threads ds i j (good (row_record s m r) ∷ xs) h e = links_threads ds (suc i) j xs (and_r (record_ok (row_record s m r)) (list_all decoded_ok xs) h) e
links_threads ds i j (good (node_record d) ∷ xs) h e =
    links_threads ds (suc i) (suc j) xs (and_r (fields_ok_as d.kind d) (list_all decoded_ok xs) h)
    (linked_of (links_ok_as d.kind (length ds) j d) i (first_bad_link (length ds) (suc i) (suc j) xs) e).1
links_threads ds i j (good (start_record s k) ∷ xs) h e =
    let q = linked_of (ltb k (length ds)) i (first_bad_link (length ds) (suc i) j xs) e in
    and_in (thread_ok ds (fresh s k)) (list_all (thread_ok ds) (threads_in xs))
    (fresh_ok ds s k (and_l (site_ok s) (list_all decoded_ok xs) h) q.0)
    (links_threads ds (suc i) j xs (and_r (site_ok s) (list_all decoded_ok xs) h) q.1)
links_threads ds i j (good (pick_record p) ∷ xs) h e = links_threads ds (suc i) j xs h e

-- ── what loading accepts ──

good-sound : (net : Net) → Good net → T (nodes_ok (length net.nodes) 0 net.nodes) → T (list_all (thread_ok net.nodes) net.threads) → T (sound net)
good-sound net g a b =
    whole net
    (record {
      few_tables = le→leb (length net.tables) 8 g.few_tables;
      few_nodes = le→leb (length net.nodes) 128 g.few_nodes;
      few_threads = le→leb (length net.threads) 8 g.few_threads;
      tables = g.tables;
      fit = g.fit;
      names = g.names;
      aliases = g.aliases;
      differ = g.differ;
      nodes = a;
      threads = b;
    })

pub record Accepted (xs : List Decoded) (net : Net) : Type 0 where
  pub is_sound : T (sound net)
  pub rows : (s : Site) (n : ℕ) → rows_of (table_at s n net.tables) ≡ rows_for s n xs
  pub tables : (s : Site) (n : ℕ) → table_at s n net.tables ≡ table_with s n (columns_for s n xs) (rows_for s n xs)
  pub starts : (ds : List Node) → rounds_ended ds net.threads

abbrev Accepts : List Decoded → LoadAnswer → Type 0
Accepts xs (rejected k i) = Unit {0}
Accepts xs (accepted net ps) = Accepted xs net

none_read : Good empty_net
unfolding distinct
none_read =
    record { few_tables = omega arith; few_nodes = omega arith; few_threads = omega arith; tables = tt; fit = tt; names = tt; aliases = tt; differ = tt }

accepts : (xs : List Decoded) → T (list_all decoded_ok xs) → Accepts xs (load xs)
unfolding load
accepts xs four = ends (read_all 0 nothing_read xs) (read 0 nothing_read xs four none_read)
  where
    ends : (x : Reading) → Ends nothing_read xs x → Accepts xs (finish xs x)
    ends (stopped k i) h = tt
    ends (finished m) h = go (first_bad_link (length m.net.nodes) 0 0 xs) refl
      where
        go : (o : Option ℕ) → first_bad_link (length m.net.nodes) 0 0 xs ≡ o → Accepts xs (linked o m)
        go (Some i) e = tt
        go None e =
            record {
              is_sound = good-sound m.net h.fine (subst (λ (ds : List Node). T (nodes_ok (length m.net.nodes) 0 ds)) (sym h.nodes) (links_nodes (length m.net.nodes) 0 0 xs four e)) (subst (λ (ts : List Thread). T (list_all (thread_ok m.net.nodes) ts)) (sym h.threads) (links_threads m.net.nodes 0 0 xs four e));
              rows = h.rows;
              tables = λ s n. rw (← h.columns s n, ← h.rows s n) (table_is_lem s n m.net.tables);
              starts = λ ds. subst (rounds_ended ds) (sym h.threads) (starts-ended ds xs);
            }

pub load-accepted : (xs : List Decoded) → T (list_all decoded_ok xs) → (net : Net) (ps : List Pick) → load xs ≡ accepted net ps → Accepted xs net
load-accepted xs h net ps e = subst (Accepts xs) e (accepts xs h)
