use Rattle.std.proofs.lemmas.List.{drop-drop}
use Rattle.std.specs.Simd.{first_chunks}
use Rattle.overlay_pages.proofs.Common.{◌≡◌, ℕ, zero, suc, ◌+◌, ◌*◌, ◌<◌, List, [], take, drop, refl, ap, ◌∙◌, arith, get_or-set_other}
use Rattle.overlay_pages.proofs.Stores.{line_of, IsStore, Store, IsFrame, with_frame_line, KeepsSegments, block_of, frame_alters, frame_inside, frame_set_here, frame_set_store, frame_stays, scratch_stays, segments_stay, stays_twice}
use Rattle.overlay_pages.proofs.Views.{PutsLine}

-- A frame is filled.

pub line_put : (store : Store) (frame line : ℕ) (bytes : List ℕ) → IsStore store → IsFrame store frame → line < 64 → PutsLine store (with_frame_line store frame line bytes) frame line bytes
line_put store frame line bytes is f low =
    let new = with_frame_line store frame line bytes in
    let alters = frame_alters store is frame f line low bytes in
    record {
      fills = record {
        blocks = refl;
        same = refl;
        segments = segments_stay store new (16 * frame) (64 * frame) 64 alters f.alone;
        frames = λ other away there. frame_stays store new (16 * frame) (64 * frame) 64 alters other there (λ e. away (omega (arith, e)));
        scratch = scratch_stays store new (16 * frame) (64 * frame) 64 alters (omega (arith, frame_inside store is frame f));
        stays = record { taken = f.taken; alone = f.alone };
        store = frame_set_store store is frame f line low bytes;
      };
      here = frame_set_here store is frame f line low bytes;
      others = λ i away. get_or-set_other store.lines (64 * frame + line) (64 * frame + i) bytes [] (λ e. away (omega (arith, e)));
    }

pub segments_twice : (one two three : Store) → KeepsSegments one two → KeepsSegments two three → KeepsSegments one three
segments_twice one two three a b unit segment there =
    let first = a unit segment there in stays_twice one two three (block_of unit segment) first (b unit segment (first.there ∙ there))

-- a line of bytes that were cut into lines
pub chunk_at : (k : ℕ) (bytes : List ℕ) (i : ℕ) → i < k → line_of (first_chunks 64 k bytes) i ≡ take 64 (drop (64 * i) bytes)
chunk_at zero bytes i low = absurd (omega (arith, low))
chunk_at (suc k) bytes zero low = refl
chunk_at (suc k) bytes (suc i) low =
    let next : 64 + 64 * i ≡ 64 * suc i = omega arith in
    chunk_at k (drop 64 bytes) i (omega (arith, low)) ∙ ap (take 64) (drop-drop (64 * i) 64 bytes ∙ ap (λ n. drop n bytes) next)
