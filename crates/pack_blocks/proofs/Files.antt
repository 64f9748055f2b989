-- Blocks of rows, one by one.
use Rattle.std.proofs.Common.{◌≡◌, ℕ, suc, ◌+◌, ◌^◌, ◌<◌, ◌≤◌, List, [], ◌∷◌, ◌++◌, length, map, take, drop, get_or, sum_by, Option, refl, sym, ap, subst, ◌∙◌, arith, append-nil, append_assoc}
use Rattle.std.specs.Prelude.{flat_map, slice_index_or}
use Rattle.snel_values.specs.declared.value.Value.{Value}
use Rattle.snel_values.specs.View.{view, views}
use Rattle.std.proofs.lemmas.List.{length-append, length-map, map-append, drop_more, drop_all}
use Rattle.std.proofs.Common.{length-drop, zero}
use Rattle.value_meaning.specs.Val.{Val, vals}
use Rattle.file_meaning.specs.Files.{Entry, StandEndToEnd, index_bytes, tail_bytes}
use Rattle.write_meaning.specs.Weights.{weight}
use Rattle.write_meaning.specs.BlockBytes.{block_bytes}
use Rattle.write_meaning.proofs.BlockTables.{one_table}
use Rattle.ion_write.specs.Written.{AreWritten}
use Rattle.pack_meaning.specs.Cuts.{Rows, AreCut, cut}
use Rattle.pack_meaning.specs.PackedFiles.{table_of, block_of, entry_of, entries_of, field_name, index_of, file_of, MayBePacked}
use Rattle.pack_meaning.proofs.Cutting.{cuts_made}
use Rattle.pack_meaning.proofs.Files.{AreParts, IsPart, parts, stand, entries_count}
use Rattle.pack_meaning.proofs.Tables.{table_is_of}
use Rattle.pack_blocks.specs.Files.{HasBlocks}

-- what is written for rows is their one block
pub written_is : (rows : Rows) (bytes : List ℕ) → AreWritten rows bytes → bytes ≡ block_of rows
unfolding block_of
written_is rows bytes w = w.are ∙ ap (λ t. block_bytes t rows) (one_table (vals rows) w.table (table_of rows) w.of_rows (table_is_of rows))

pub bytes_joined : (a b : List Rows) → flat_map block_of (a ++ b) ≡ flat_map block_of a ++ flat_map block_of b
bytes_joined [] b = refl
bytes_joined (x ∷ a) b = ap (λ l. block_of x ++ l) (bytes_joined a b) ∙ sym (append_assoc (block_of x) (flat_map block_of a) (flat_map block_of b))

pub entries_joined : (tf : Option (List ℕ)) (start : ℕ) (a : List Rows) (b : Rows) → entries_of tf start (a ++ b ∷ []) ≡ entries_of tf start a ++ entry_of tf (start + length (flat_map block_of a)) b ∷ []
entries_joined tf start [] b = ap (λ n. entry_of tf n b ∷ []) (omega arith)
entries_joined tf start (x ∷ a) b =
    let there : start + length (block_of x) + length (flat_map block_of a) ≡ start + length (flat_map block_of (x ∷ a)) = omega (arith, length-append (block_of x) (flat_map block_of a)) in
    ap (λ l. entry_of tf start x ∷ l) (entries_joined tf (start + length (block_of x)) a b ∙ ap (λ n. entries_of tf (start + length (block_of x)) a ++ entry_of tf n b ∷ []) there)

-- what follows the blocks
pub indexed : (tf : Option (List ℕ)) (most : ℕ) (rows : Rows) (blocks bytes : List ℕ) (entries : List Entry) (field : List ℕ) → HasBlocks tf (cut most rows) blocks entries → field ≡ field_name tf
    → bytes ≡ blocks ++ (index_bytes field entries ++ tail_bytes (length blocks)) → bytes ≡ file_of tf most rows
unfolding file_of index_of
indexed tf most rows blocks bytes entries field k f e = e ∙ rw (f, k.all, k.listed) refl

pub listed_count : (tf : Option (List ℕ)) (most : ℕ) (rows : Rows) (blocks : List ℕ) (entries : List Entry) → HasBlocks tf (cut most rows) blocks entries → length entries ≡ length (cut most rows)
listed_count tf most rows blocks entries k = ap length k.listed ∙ entries_count tf 0 (cut most rows)

pub stands : (tf : Option (List ℕ)) (most : ℕ) (rows : Rows) (blocks : List ℕ) (entries : List Entry) → MayBePacked tf most rows → HasBlocks tf (cut most rows) blocks entries → StandEndToEnd 0 entries (length blocks)
stands tf most rows blocks entries may k =
    let c = (cuts_made most rows (cut most rows) may.fit).0 refl in
    let p = parts most (cut most rows) rows c may.sound may.writable in
    rw (k.all, k.listed) (subst (StandEndToEnd 0 (entries_of tf 0 (cut most rows))) (omega arith) (stand tf most 0 (cut most rows) may.low p))
