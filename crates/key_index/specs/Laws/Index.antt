-- Laws of a sound key store: a slot is free, the functions preserve soundness, and a lookup finds what a scan of the rows finds.
-- Assumes nothing.
use Rattle.std.specs.Prelude.{◌+◌, ◌*◌, ◌≤◌, ◌<◌, ◌≡◌, ◌⊎◌}
use Rattle.key_index.specs.Laws.Prelude.{ℕ, zero, suc, refl, sym, ap, ◌∙◌, inl, inr, Bool, true, List, zero-add, mul-le-mul_right, dec_lt, ℕ_discrete, arith, length, drop, get_or, set, length-replicate, get_or-replicate, drop-set-lt, get_or-set_same, get_or-set_other, splice, same, split, get_d_splice_in, IndexShape, LiveAt, key_at, slots, word, home, slot_from, ReachableAt, KeysSound, RowsIn, Fits, FirstFree, FoundAt, FirstHit, PutIs, zeros, EmptyIs}
use Rattle.cells.specs.Cells.{compact_hash, key_hash}
use Rattle.key_index.specs.inner.Ring.{tagged, row_named}
use Rattle.key_index.specs.Laws.Ring.{home_spread, word_tagged, word_some, word_row, word_same, slot_below}
use Rattle.key_index.specs.Laws.Pigeonhole.{pigeonhole}

pub rows_in_lem : (t : IndexShape) (rows store : List ℕ) → Fits t rows store → RowsIn t rows
rows_in_lem t rows store f =
    record {
      most_columns = f.most_columns;
      most_keys = f.most_keys;
      most = f.most;
      count = f.count;
      cells = omega (arith, f.cells, mul-le-mul_right t.columns f.count);
    }

-- ---- a slot is free

-- all slots below n are taken, or one is free
any_free : (n : ℕ) (store : List ℕ) → ((slot : ℕ) → slot < n → 0 < get_or store slot 0) ⊎ ((slot : ℕ) × (slot < n) × (get_or store slot 0 ≡ 0))
any_free zero store = inl (λ slot h. absurd (omega arith))
any_free (suc n) store = elim (ℕ_discrete (get_or store n 0) 0) [
  | yes e ↦ inr (n, omega arith, e)
  | no e ↦ elim (any_free n store) [
    | inl f ↦ inl (λ slot h. elim (ℕ_discrete slot n) [ yes q ↦ rw q (omega arith) | no q ↦ f slot (omega arith) ])
    | inr s ↦ inr (s.0, omega (arith, s.1), s.2)
  ]
]

-- the row number in a slot's word
abbrev row_in : List ℕ → ℕ → ℕ
row_in store slot = row_named (get_or store slot 0)

module _ (t : IndexShape) (rows store : List ℕ) (fits : Fits t rows store) (sound : KeysSound t rows store) where
  -- each taken slot has a different row, so not all slots are taken
  not_all : ((slot : ℕ) → slot < slots t → 0 < get_or store slot 0) → ⊥
  not_all taken = let z : slots t ≤ t.rows = pigeonhole (slots t) t.rows (row_in store) into once in omega (arith, fits.count, fits.some)
    where
      the : (slot : ℕ) → slot < slots t → (r : ℕ) × LiveAt t rows r × (get_or store slot 0 ≡ word (key_at t rows r) r)
      the slot h = sound.only_live slot h (taken slot h)

      at_is : (slot : ℕ) (h : slot < slots t) → row_in store slot ≡ (the slot h).0
      at_is slot h =
          let r = the slot h in
          ap row_named r.2 ∙ word_row (key_at t rows r.0) r.0 (omega (arith, r.1.0, fits.count, fits.most))

      into : (slot : ℕ) → slot < slots t → row_in store slot < t.rows
      into slot h = omega (arith, at_is slot h, (the slot h).1.0)

      once : (a b : ℕ) → a < slots t → b < slots t → row_in store a ≡ row_in store b → a ≡ b
      once a b h k e =
          let q : (the a h).0 ≡ (the b k).0 = sym (at_is a h) ∙ e ∙ at_is b k in
          sound.once a b h k (taken a h) ((the a h).2 ∙ ap (λ (r : ℕ). word (key_at t rows r) r) q ∙ sym (the b k).2)

  pub free_slot : (slot : ℕ) × (slot < slots t) × (get_or store slot 0 ≡ 0)
  free_slot = elim (any_free (slots t) store) [ inl f ↦ absurd (not_all f) | inr s ↦ s ]

  -- so inserting a row always succeeds
  pub put_succeeds : (hash new : ℕ) (r : Bool) (store' : List ℕ) → PutIs (slots t) store hash new r store' → r ≡ true
  put_succeeds hash new r store' p = elim (split r) [ inl e ↦ e | inr e ↦ absurd (p.full e free_slot.0 free_slot.1 free_slot.2) ]

-- ---- what preserves soundness

-- other rows, with the same live rows and the same keys
pub record SameLive (t t' : IndexShape) (rows rows' : List ℕ) : Type 0 where
  pub room : t'.room ≡ t.room
  pub keeps : (i : ℕ) → LiveAt t rows i → LiveAt t' rows' i
  pub only : (i : ℕ) → LiveAt t' rows' i → LiveAt t rows i
  pub key : (i : ℕ) → LiveAt t rows i → key_at t' rows' i ≡ key_at t rows i

pub keys_same : (t t' : IndexShape) (rows rows' store : List ℕ) → KeysSound t rows store → SameLive t t' rows rows' → KeysSound t' rows' store
keys_same t t' rows rows' store sound same =
    record {
      only_live = λ slot h some.
          let o = sound.only_live slot (omega (arith, same.room)) some in
          (o.0, same.keeps o.0 o.1, o.2 ∙ ap (λ (k : List ℕ). word k o.0) (sym (same.key o.0 o.1)));
      once = λ a b h k. sound.once a b (omega (arith, same.room)) (omega (arith, same.room));
      leads = λ i live. rw (same.room, same.key i (same.only i live)) (sound.leads i (same.only i live));
    }

-- a store without live rows and without taken slots is sound
pub empty_sound : (t : IndexShape) (rows store : List ℕ) → ((i : ℕ) → LiveAt t rows i → ⊥) → ((slot : ℕ) → slot < slots t → get_or store slot 0 ≡ 0)
    → KeysSound t rows store
empty_sound t rows store none free =
    record {
      only_live = λ slot h some. absurd (omega (arith, free slot h));
      once = λ a b h k some e. absurd (omega (arith, free a h));
      leads = λ i live. absurd (none i live);
    }

-- conversely, without live rows all slots of a sound store are free
pub empty_free : (t : IndexShape) (rows store : List ℕ) → ((i : ℕ) → LiveAt t rows i → ⊥) → KeysSound t rows store
    → (slot : ℕ) → slot < slots t → get_or store slot 0 ≡ 0
empty_free t rows store none sound slot h =
    elim (dec_lt 0 (get_or store slot 0)) [
      | yes some ↦ let held = sound.only_live slot h some in absurd (none held.0 held.1)
      | no free ↦ omega arith
    ]

pub emptied : (room : ℕ) (store store' : List ℕ) → 2 * room ≤ length store → EmptyIs room store store'
    → (slot : ℕ) → slot < 2 * room → get_or store' slot 0 ≡ 0
emptied room store store' long e slot h =
    let r : length (zeros (2 * room)) ≡ 2 * room = length-replicate (2 * room) 0 in
    let k : slot < length (zeros (2 * room)) = omega arith in
    let z : 0 + slot ≡ slot = zero-add slot in
    ap (λ (l : List ℕ). get_or l slot 0) e.free
    ∙ ap (λ (i : ℕ). get_or (splice store 0 (zeros (2 * room))) i 0) (sym z)
    ∙ get_d_splice_in store (zeros (2 * room)) 0 (omega arith) slot 0 k
    ∙ get_or-replicate (2 * room) slot 0 0 h

-- One slot gets the word of a new row. Its previous word was that of no live row, or of a row that is not live any more.
record SlotReplaced (t t' : IndexShape) (rows rows' store : List ℕ) (slot : ℕ) : Type 0 where
  room : t'.room ≡ t.room
  place : t.rows < t.room
  keeps : (i : ℕ) → LiveAt t rows i → (get_or store slot 0 ≡ word (key_at t rows i) i → ⊥) → LiveAt t' rows' i
  adds : LiveAt t' rows' t.rows
  only : (i : ℕ) → LiveAt t' rows' i → (LiveAt t rows i × (get_or store slot 0 ≡ word (key_at t rows i) i → ⊥)) ⊎ (i ≡ t.rows)
  key : (i : ℕ) → LiveAt t rows i → (get_or store slot 0 ≡ word (key_at t rows i) i → ⊥) → key_at t' rows' i ≡ key_at t rows i

module _ (t t' : IndexShape) (rows rows' store : List ℕ) (fits : Fits t rows store) (sound : KeysSound t rows store) (slot : ℕ) (turned : SlotReplaced t t' rows rows' store slot) where
  abbrev new : List ℕ
  new = key_at t' rows' t.rows

  abbrev after : List ℕ
  after = set store slot (word new t.rows)

  module _ (below : slot < slots t) where
    here : get_or after slot 0 ≡ word new t.rows
    here = get_or-set_same store slot _ 0 (omega (arith, fits.long))

    other : (i : ℕ) → (i ≡ slot → ⊥) → get_or after i 0 ≡ get_or store i 0
    other i ne = get_or-set_other store slot i _ 0 ne

    -- no slot becomes free
    taken : (i : ℕ) → (get_or store i 0 ≡ 0 → ⊥) → get_or after i 0 ≡ 0 → ⊥
    taken i f z = elim (ℕ_discrete i slot) [
      | yes e ↦ let g : word new t.rows ≡ 0 = sym here ∙ rw e at z in omega (arith, word_some new t.rows)
      | no e ↦ f (sym (other i e) ∙ z)
    ]

    -- no other slot has the word of the new row
    fresh : (i : ℕ) → i < slots t → (i ≡ slot → ⊥) → get_or store i 0 ≡ word new t.rows → ⊥
    fresh i h ne e =
        let some : 0 < get_or store i 0 = omega (arith, word_some new t.rows) in
        let o = sound.only_live i h some in
        let q : o.0 ≡ t.rows = word_same _ _ o.0 t.rows (omega (arith, o.1.0, fits.count, fits.most)) (omega (arith, turned.place, fits.most)) (sym o.2 ∙ e) in
        omega (arith, o.1.0)

    -- the word of a taken slot afterwards
    holds : (i : ℕ) → i < slots t → 0 < get_or after i 0 → (r : ℕ) × LiveAt t' rows' r × (get_or after i 0 ≡ word (key_at t' rows' r) r)
    holds i h some = elim (ℕ_discrete i slot) [
      | yes e ↦ (t.rows, turned.adds, rw e here)
      | no e ↦
          let k : 0 < get_or store i 0 = omega (arith, other i e) in
          let o = sound.only_live i h k in
          let q : get_or store slot 0 ≡ word (key_at t rows o.0) o.0 → ⊥ = λ p. e (sound.once i slot h below k (o.2 ∙ sym p)) in
          (o.0, turned.keeps o.0 o.1 q, other i e ∙ o.2 ∙ ap (λ (l : List ℕ). word l o.0) (sym (turned.key o.0 o.1 q)))
    ]

    apart : (a b : ℕ) → a < slots t → b < slots t → 0 < get_or after a 0 → get_or after a 0 ≡ get_or after b 0 → a ≡ b
    apart a b h k some e = elim (ℕ_discrete a slot) [
      | yes p ↦ elim (ℕ_discrete b slot) [
        | yes q ↦ p ∙ sym q
        | no q ↦ absurd (fresh b k q (sym (other b q) ∙ sym e ∙ rw p here))
      ]
      | no p ↦ elim (ℕ_discrete b slot) [
        | yes q ↦ absurd (fresh a h p (sym (other a p) ∙ e ∙ rw q here))
        | no q ↦ sound.once a b h k (omega (arith, other a p)) (sym (other a p) ∙ e ∙ other b q)
      ]
    ]

    -- a row in another slot is still found there
    stays : (i : ℕ) → LiveAt t rows i → (get_or store slot 0 ≡ word (key_at t rows i) i → ⊥) → (d : ℕ) × ReachableAt (slots t) after (key_at t rows i) i d
    stays i live ne =
        let s = sound.leads i live in
        let q : slot_from (slots t) (home (slots t) (key_at t rows i)) s.0 ≡ slot → ⊥ = λ e. ne (rw e at s.1.there) in
        (s.0, record { below = s.1.below; there = other _ q ∙ s.1.there; way = λ e h. taken _ (s.1.way e h) })

    slot_replaced_sound : (d : ℕ) → d < slots t → slot ≡ slot_from (slots t) (home (slots t) new) d
        → ((e : ℕ) → e < d → get_or store (slot_from (slots t) (home (slots t) new) e) 0 ≡ 0 → ⊥) → KeysSound t' rows' after
    slot_replaced_sound d h at way = record { only_live = λ i k. holds i (omega (arith, turned.room)); once = λ a b k l. apart a b (omega (arith, turned.room)) (omega (arith, turned.room)); leads = λ i live. rw turned.room (leads i live) }
      where
        leads : (i : ℕ) → LiveAt t' rows' i → (d : ℕ) × ReachableAt (slots t) after (key_at t' rows' i) i d
        leads i live = elim (turned.only i live) [
          | inl o ↦ rw (turned.key i o.0 o.1) (stays i o.0 o.1)
          | inr e ↦ rw e (d, record { below = h; there = rw (← at) here; way = λ e k. taken _ (way e k) })
        ]

-- one more row is live, after the others, which are unchanged
pub record Grown (t t' : IndexShape) (rows rows' : List ℕ) : Type 0 where
  pub room : t'.room ≡ t.room
  pub place : t.rows < t.room
  pub keeps : (i : ℕ) → LiveAt t rows i → LiveAt t' rows' i
  pub adds : LiveAt t' rows' t.rows
  pub only : (i : ℕ) → LiveAt t' rows' i → LiveAt t rows i ⊎ (i ≡ t.rows)
  pub key : (i : ℕ) → LiveAt t rows i → key_at t' rows' i ≡ key_at t rows i

pub put_sound : (t t' : IndexShape) (rows rows' store store' : List ℕ) (hash : ℕ) (r : Bool) → Fits t rows store → KeysSound t rows store → Grown t t' rows rows'
    → hash ≡ compact_hash (key_hash (key_at t' rows' t.rows)) → PutIs (slots t) store hash t.rows r store' → KeysSound t' rows' store'
put_sound t t' rows rows' store store' hash r fits sound grown e put =
    let p = put.yes (put_succeeds t rows store fits sound hash t.rows r store' put) in
    let key = key_at t' rows' t.rows in
    let n = slots t in
    let f : FirstFree n store (home n key) p.0 = rw (home_spread n hash key e) at p.1 in
    let slot = slot_from n (home n key) p.0 in
    let s : store' ≡ set store slot (word key t.rows) = p.2 ∙ rw (home_spread n hash key e, word_tagged hash t.rows key e) in
    let no : (i : ℕ) → get_or store slot 0 ≡ word (key_at t rows i) i → ⊥ = λ i q. let z : word (key_at t rows i) i ≡ 0 = sym q ∙ f.free in omega (arith, word_some (key_at t rows i) i) in
    let turned : SlotReplaced t t' rows rows' store slot =
    record {
      room = grown.room;
      place = grown.place;
      keeps = λ i live _. grown.keeps i live;
      adds = grown.adds;
      only = λ i live. elim (grown.only i live) [ inl o ↦ inl (o, no i) | inr q ↦ inr q ];
      key = λ i live _. grown.key i live;
    } in
    rw s (slot_replaced_sound t t' rows rows' store fits sound slot turned (slot_below n _ _ (omega (arith, fits.some))) p.0 f.below refl f.way)

-- one slot of the ring is written, and nothing past the ring
pub replace_tail : (n slot w : ℕ) (store store' : List ℕ) → slot < n → store' ≡ set store slot w → drop n store' ≡ drop n store
replace_tail n slot w store store' h e = ap (drop n) e ∙ drop-set-lt n store slot w h

-- one row dies, and a new row with the same key is live, after the others
pub record Swapped (t t' : IndexShape) (rows rows' : List ℕ) (old : ℕ) : Type 0 where
  pub room : t'.room ≡ t.room
  pub place : t.rows < t.room
  pub keeps : (i : ℕ) → LiveAt t rows i → (i ≡ old → ⊥) → LiveAt t' rows' i
  pub adds : LiveAt t' rows' t.rows
  pub only : (i : ℕ) → LiveAt t' rows' i → (LiveAt t rows i × (i ≡ old → ⊥)) ⊎ (i ≡ t.rows)
  pub key : (i : ℕ) → LiveAt t rows i → (i ≡ old → ⊥) → key_at t' rows' i ≡ key_at t rows i
  pub new_key : key_at t' rows' t.rows ≡ key_at t rows old

pub replace_sound : (t t' : IndexShape) (rows rows' store store' key : List ℕ) (hash old slot : ℕ) → Fits t rows store → KeysSound t rows store → Swapped t t' rows rows' old
    → FoundAt t rows store key old slot → hash ≡ compact_hash (key_hash key) → store' ≡ set store slot (tagged hash t.rows) → KeysSound t' rows' store'
replace_sound t t' rows rows' store store' key hash old slot fits sound swapped found e s =
    let k : key_at t' rows' t.rows ≡ key = swapped.new_key ∙ found.key_is in
    let n = slots t in
    let d = sound.leads old found.live in
    let some : 0 < get_or store slot 0 = omega (arith, found.word_is, word_some key old) in
    let there : get_or store slot 0 ≡ get_or store (slot_from n (home n (key_at t rows old)) d.0) 0 = found.word_is ∙ ap (λ (l : List ℕ). word l old) (sym found.key_is) ∙ sym d.1.there in
    let at : slot ≡ slot_from n (home n (key_at t rows old)) d.0 = sound.once slot _ found.slot_in (slot_below n _ _ (omega (arith, fits.some))) some there in
    let mine : (i : ℕ) → i < t.rows → get_or store slot 0 ≡ word (key_at t rows i) i → i ≡ old =
    λ i h q. word_same _ _ i old (omega (arith, fits.count, fits.most)) (omega (arith, found.live.0, fits.count, fits.most)) (sym q ∙ found.word_is) in
    let ours : get_or store slot 0 ≡ word (key_at t rows old) old = there ∙ d.1.there in
    let its : (i : ℕ) → (get_or store slot 0 ≡ word (key_at t rows i) i → ⊥) → i ≡ old → ⊥ = λ i ne q. ne (rw q ours) in
    let turned : SlotReplaced t t' rows rows' store slot =
    record {
      room = swapped.room;
      place = swapped.place;
      keeps = λ i live ne. swapped.keeps i live (its i ne);
      adds = swapped.adds;
      only = λ i live. elim (swapped.only i live) [ inl o ↦ inl (o.0, λ q. o.1 (mine i o.0.0 q)) | inr q ↦ inr q ];
      key = λ i live ne. swapped.key i live (its i ne);
    } in
    let w : store' ≡ set store slot (word (key_at t' rows' t.rows) t.rows) = s ∙ ap (set store slot) (word_tagged hash t.rows key e ∙ ap (λ (l : List ℕ). word l t.rows) (sym k)) in
    rw w (slot_replaced_sound t t' rows rows' store fits sound slot turned found.slot_in d.0 d.1.below (rw swapped.new_key at) (rw swapped.new_key d.1.way))

-- ---- two lookups of one key

tagged_one : (hash i j : ℕ) → tagged hash i ≡ tagged hash j → i ≡ j
unfolding tagged
tagged_one hash i j e = omega arith

-- two lookups of one key find the same row, on any store
pub first_one : (t : IndexShape) (rows store key : List ℕ) (hash i j d e : ℕ) → FirstHit t rows store key hash i d → FirstHit t rows store key hash j e → i ≡ j
first_one t rows store key hash i j d e f g =
    elim (dec_lt d e) [
      | yes h ↦ absurd (g.way d h i f.leads)
      | no h ↦ elim (dec_lt e d) [
        | yes k ↦ absurd (f.way e k j g.leads)
        | no k ↦ let z : e ≡ d = omega arith in tagged_one hash i j (sym f.leads.tag ∙ rw z at g.leads.tag)
      ]
    ]
