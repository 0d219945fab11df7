-- The steps that all manual proofs over MIR share, for any function:
--     Tokens                 the tokens of a call's lifetimes as an entry of the context
--     env-of, Cells          a function's locals at their blocks, and what is in them as entries of the context, the last first
--     Callee, Cites          a callee's contract; that a table of calls meets it
--     arg                    a call's next operand is a local, which is entry n of the context
--     twice                  what is lent as `&` is had twice
--     bool-lands             a call's result that is known to be a truth value lands
--     returned               a call has returned: its tokens, its result, the last values of what it was lent, what it ensures
--     calls, calls_last      a call: what it requires is at the head of the context; then come its tokens, its result and the
--                            last values of what it was lent, and what its contract ensures is known
--     Value, typed, own      types of plain values: their machine values are of their types, and owned for nothing. By kind: struct-value, enum-value
--     value-lands, value-settles    one that a call returns lands: its machine value is known, and it is in range
--     Known R                a type's machine values, and that they are of its MIR types. By kind: number, reads, writes, struct
--     Passed s k             all that a manual proof needs of a parameter: what is had of it at exit, and its machine values.
--                            By kind: by_value, lent_slice, kept-slice, given-slice
--     walk-runs              from the manual proof over a function's MIR to its theorem
-- Assumes `Logic`.
use types.Logic.{Logic}
use denote.Slice.{shr_slice_vals, mut_slice_vals}
use denote.Ref.{Bor}
use Rattle.manual_proofs.proofs.Prelude.{Name, ◌≡◌, refl, ap, subst, ◌∙◌, ℕ, Bool, List, [], ◌∷◌, Ura, full_share, Body, Place, Ty, Operand, call, seq, Val, vbool, SProp, ent, id⊢, Lft, Share, ftrue, flft, fat, froom, fdies, Calls, Env, Loops, WpFn, Fun, tables, tables_of, Goal, Item, Post, Seq, Step, lands, regoal, runs, settles, step, ‵, raw, ◌⊛◌, some, later, ◌$◌, move, use1, split, pick, await, Opds, look, stop, from, load, and_then, FmC, bool, yes, Is, shows, RattleType, RowLaws, plain, ShrSlice, facts, owned, only, Clauses, on_entry, zero, suc, Fn, Lifetime, Local, local, place, copy, sep, Closed, spot_of, Soaks, mean, nth, recast, flat, Slot, AllWithin, meet_at, mut_slice_of, name_of, shr_slice_of, type_at, types_at, shr_slice_copy, shr_slice_Tells, mut_slice_Tells, Model, Names, Lfts, Shares, AllOutlive, toks, Running, Are, Ises, Lawful, Spells, Tells, Tellss, Typed, valss, heard, calls_at, Ended, Lasts, at_exit, lasts, closing, Args, Res, triple_of, Contract, Triple, entered, Width, UInt, uint_vals, uint_Tells, uint_Lawful, MutSlice, shr_slice_Lawful, mut_slice_Lawful}
use contract.Monad.{fact}
use sound.WpLaws.{WpFn-mono}
use denote.Exit.{Kept, Last, left}
use denote.Laws.{Makes}
use denote.Struct.Declared as SD
use denote.Struct.Laws as LL
use denote.Struct.Struct.{Plains}
use denote.Enum.Declared as ED
use denote.Enum.Enum.{Few, Plainss}
use denote.Enum.Laws as EL
use denote.Triple.Call.{calls_at_last}
use denote.Triple.End.{Kepts}
use denote.Triple.Entry.{Vals}
use denote.Triple.Walked.{Stay, Stays, Goes, AllGo, stay_none, stay_none_slice, stay_slice, gave_slice, Goes-none, Goes-none_slice, Goes-slice, Goes-gave_slice, walk_of, walked, walk_Meets}

-- what is in a local
pub data Cell : Type 0 where
  empty : Cell
  holds : Val → Cell

abbrev pub env_of : List Local → List ℕ → List (Ty × ℕ)
env_of [] ls = []
env_of (local τ home ∷ locals) [] = []
env_of (local τ home ∷ locals) (l ∷ ls) = (τ, l) ∷ env_of locals ls

module _ {M : Type 1} (𝓤 : Ura M) where
  abbrev cell : Ty → ℕ → Cell → Item 𝓤
  cell τ l empty = ‵ (froom τ l 0)
  cell τ l (holds v) = ‵ (fat full_share τ l 0 v)

  abbrev pub Cells : List (Ty × ℕ) → List Cell → List (Item 𝓤) → List (Item 𝓤)
  Cells [] cells Γ = Γ
  Cells (e ∷ E) [] Γ = Γ
  Cells (e ∷ E) (c ∷ cells) Γ = Cells E cells (cell e.0 e.1 c ∷ ‵ (fdies e.0 e.1) ∷ Γ)

module _ {M : Type 1} {𝓤 : Ura M} (𝓛 : Logic 𝓤) where
  open 𝓛 use {H, A}

  abbrev pub Tokens : (n : ℕ) → Lfts n → Shares n → Item 𝓤
  Tokens zero κs qs = ‵ ftrue
  Tokens (suc n) κs qs = ‵ (flft κs.0 qs.0) ⊛ Tokens n κs.1 qs.1

  tokens_are : (n : ℕ) (κs : Lfts n) (qs : Shares n) → toks 𝓛 n κs qs ≡ mean 𝓛 (Tokens n κs qs)
  tokens_are zero κs qs = refl
  tokens_are (suc n) κs qs = ap (sep 𝓤 (A.lft κs.0 qs.0)) (tokens_are n κs.1 qs.1)

  module _ (T : Ended) (c : Clauses 𝓤 T) where
    abbrev pub Callee : Contract 𝓤
    Callee = triple_of 𝓛 T.signature (closing 𝓛 T c)

    abbrev pub Cites : Calls 𝓤 H → Name → Type 1
    Cites C f = Triple 𝓤 (C f) Callee

    -- what the contract ensures for a result and for last values
    abbrev pub Ensures : (y : Callee.Ghost) → Res T.signature y.0.0 → Lasts T y.0.0 y.0.3 → SProp 𝓤
    Ensures y r ws = (c y.0.0 y.0.3).ensures y.1 r (at_exit T y.0.0 y.0.3 ws)

    -- and what a caller has after it
    abbrev pub Back : (y : Callee.Ghost) → Val → Res T.signature y.0.0 → Lasts T y.0.0 y.0.3 → List (Item 𝓤) → List (Item 𝓤)
    Back y w r ws Γ = Tokens T.signature.lifetimes y.0.0 y.0.1 ∷ ‵ ((type_at T.signature.result y.0.0).own_val r (w ∷ [])) ∷ ‵ (lasts T y.0.0 y.0.3 ws) ∷ Γ

module _ {M : Type 1} {𝓤 : Ura M} {𝓛 : Logic 𝓤} {K : Type 0} {Γ : List (Item 𝓤)} where
  open 𝓛 use {H, A}

  pub arg : {E : Env 𝓤 H} → K → (n : ℕ) {i : ℕ} {q : Share} {v : Val} {xs : List Operand} {vs : List Val} → nth 𝓛 n Γ ≡ ‵ (fat q (spot_of 𝓤 H E i).0 (spot_of 𝓤 H E i).1 (spot_of 𝓤 H E i).2 v) → Opds K 𝓛 Γ E xs vs
      → Opds K 𝓛 Γ E (copy (place i []) ∷ xs) (v ∷ vs)
  arg t n e rest = and_then t (load t (from t (stop t)) (look t n e)) rest

  pub twice : {G : Goal 𝓤 H} → K → (ℓ : Lifetime) (κ : Lft) (R : RattleType) → RowLaws R → (x : Bor (List R.Denot)) → Step K 𝓛 (‵ ((ShrSlice ℓ κ R).own_val x (shr_slice_vals x)) ∷ ‵ ((ShrSlice ℓ κ R).own_val x (shr_slice_vals x)) ∷ Γ) G (‵ ((ShrSlice ℓ κ R).own_val x (shr_slice_vals x)) ∷ Γ) G
  twice t ℓ κ R L x = step (λ s. use1 𝓛 (‵ ((ShrSlice ℓ κ R).own_val x (shr_slice_vals x)) ⊛ ‵ ((ShrSlice ℓ κ R).own_val x (shr_slice_vals x))) ((shr_slice_copy 𝓛 ℓ κ R L).twice x (shr_slice_vals x)) $ split t $ s)

  pub bool_lands : {C : Calls 𝓤 H} {Λ : Loops 𝓤 H} {E : Env 𝓤 H} {d : Place} {rest : Body} {q : Post 𝓤 H} → K → (r : Bool) (w : Val) {v : Bool} → r ≡ v → Step K 𝓛 Γ (lands C Λ E d (vbool v) rest q) (‵ (bool.own_val r (w ∷ [])) ∷ Γ) (lands C Λ E d w rest q)
  bool_lands {C = C} {Λ = Λ} {E = E} {d = d} {rest = rest} {q = q} t r w e = step (λ s. facts t bool (Is bool) (shows 𝓛 bool) r (w ∷ []) (λ is. regoal t (λ (u : Val). lands C Λ E d u rest q) (ap only is ∙ ap vbool e) refl $ s))

  module _ (T : Ended) (c : Clauses 𝓤 T) (y : (Callee 𝓛 T c).Ghost) where
    pub returned : {G : Goal 𝓤 H} → K → Soaks G → (w : Val)
        → ((r : Res T.signature y.0.0) (ws : Lasts T y.0.0 y.0.3) → Seq K 𝓛 (raw (toks 𝓛 T.signature.lifetimes y.0.0 y.0.1) ∷ ‵ ((type_at T.signature.result y.0.0).own_val r (w ∷ [])) ∷ ‵ (lasts T y.0.0 y.0.3 ws) ∷ raw (Ensures 𝓛 T c y r ws) ∷ Γ) G)
        → Seq K 𝓛 (raw ((Callee 𝓛 T c).post y w) ∷ Γ) G
    returned t z w k =
        use1 𝓛 (later (some (λ (r : Res T.signature y.0.0). (raw (toks 𝓛 T.signature.lifetimes y.0.0 y.0.1) ⊛ ‵ ((type_at T.signature.result y.0.0).own_val r (w ∷ [])))
        ⊛ some (λ (ws : Lasts T y.0.0 y.0.3). ‵ (lasts T y.0.0 y.0.3 ws) ⊛ raw (Ensures 𝓛 T c y r ws))))) (id⊢ 𝓤 _) $ await t z $ pick t (λ r. split t $ move t (1 ∷ []) $ pick t (λ ws. split t $ move t (2 ∷ []) $ split t $ k r ws))

  module _ (T : Ended) (c : Clauses 𝓤 T) (y : (Callee 𝓛 T c).Ghost) (φ : Res T.signature y.0.0 → Lasts T y.0.0 y.0.3 → Type 0)
      (said : (r : Res T.signature y.0.0) (ws : Lasts T y.0.0 y.0.3) → ent 𝓤 (Ensures 𝓛 T c y r ws) (fact 𝓤 (φ r ws))) where
    answers : {G : Goal 𝓤 H} → K → Soaks G → (w : Val) → ((r : Res T.signature y.0.0) (ws : Lasts T y.0.0 y.0.3) → φ r ws → Seq K 𝓛 (Back 𝓛 T c y w r ws Γ) G) → Seq K 𝓛 (raw ((Callee 𝓛 T c).post y w) ∷ Γ) G
    answers t z w k =
        returned T c y t z w (λ r ws. move t (3 ∷ []) $ use1 𝓛 (raw (fact 𝓤 (φ r ws))) (said r ws) $ heard t (φ r ws) (λ e.
        recast 𝓛 (Tokens 𝓛 T.signature.lifetimes y.0.0 y.0.1) (tokens_are 𝓛 T.signature.lifetimes y.0.0 y.0.1) $ k r ws e))

    module _ {E : Env 𝓤 H} {C : Calls 𝓤 H} {Λ : Loops 𝓤 H} {q : Post 𝓤 H} {d : Place} {f : Name} {xs : List Operand} where
      pub calls : K → FmC 𝓤 H 𝓛.laws C → {rest : Body} → Cites 𝓛 T c C f → Opds K 𝓛 (raw ((Callee 𝓛 T c).pre y) ∷ Γ) E xs ((Callee 𝓛 T c).args y)
          → ((w : Val) (r : Res T.signature y.0.0) (ws : Lasts T y.0.0 y.0.3) → φ r ws → Seq K 𝓛 (Back 𝓛 T c y w r ws Γ) (lands C Λ E d w rest q)) → Seq K 𝓛 (raw ((Callee 𝓛 T c).pre y) ∷ Γ) (runs C Λ E (seq (call f xs d) rest) q)
      calls t fm known os k = calls_at t fm (Callee 𝓛 T c) known y os (λ w. answers t tt w (k w))

      pub calls_last : K → FmC 𝓤 H 𝓛.laws C → Cites 𝓛 T c C f → Opds K 𝓛 (raw ((Callee 𝓛 T c).pre y) ∷ Γ) E xs ((Callee 𝓛 T c).args y)
          → ((w : Val) (r : Res T.signature y.0.0) (ws : Lasts T y.0.0 y.0.3) → φ r ws → Seq K 𝓛 (Back 𝓛 T c y w r ws Γ) (settles E d w q)) → Seq K 𝓛 (raw ((Callee 𝓛 T c).pre y) ∷ Γ) (runs C Λ E (call f xs d) q)
      calls_last t fm known os k = calls_at_last t fm (Callee 𝓛 T c) known y os (λ w. answers t tt w (k w))

-- a type of plain values: one machine value for each, which is owned for nothing if it is in range
pub record Value : Type 3 where
  pub row : RattleType
  pub val : row.Denot → Val
  pub tells : Tells row (Is row) (λ x. val x ∷ [])
  pub silent : (x : row.Denot) (f : Last (row.exit yes) x) → left (row.exit yes) x f ≡ ftrue
  pub makes : {M : Type 1} {𝓤 : Ura M} (𝓛 : Logic 𝓤) → Makes 𝓛 row (Is row)
  pub lawful : {M : Type 1} {𝓤 : Ura M} (𝓛 : Logic 𝓤) → Lawful 𝓛 row

-- of a struct and of an enum of plain values
abbrev Silent : RattleType → Type 1
Silent R = (x : R.Denot) (f : Last (R.exit yes) x) → left (R.exit yes) x f ≡ ftrue

abbrev pub struct_value : (D : SD.Declared) (L : LL.Laws D) → Plains (SD.fields D) → Silent (SD.row D) → Value
struct_value D L P silent = record { row = SD.row D; val = LL.val D L; tells = LL.tells D L; silent = silent; makes = λ 𝓛. LL.makes D P 𝓛; lawful = λ 𝓛. LL.lawful D L 𝓛 }

abbrev pub enum_value : (D : ED.Declared) (L : EL.Laws D) → Plainss (ED.variants D) → Few (ED.shape D) → Silent (ED.row D) → Value
enum_value D L P few silent = record { row = ED.row D; val = EL.val D L; tells = EL.tells D L; silent = silent; makes = λ 𝓛. EL.makes D P 𝓛; lawful = λ 𝓛. EL.lawful D L 𝓛 few }

pub typed : {M : Type 1} {𝓤 : Ura M} (𝓛 : Logic 𝓤) (S : Value) (x : S.row.Denot) → Is S.row x (S.val x ∷ []) → Typed S.row.mir (S.val x ∷ [])
typed {𝓤 = 𝓤} 𝓛 S x is = (S.lawful 𝓛).typed x (S.val x ∷ []) is

pub own : {M : Type 1} {𝓤 : Ura M} {𝓛 : Logic 𝓤} {K : Type 0} {Γ : List (Item 𝓤)} {G : Goal 𝓤 𝓛.H} → K → (S : Value) (x : S.row.Denot) → Is S.row x (S.val x ∷ []) → Step K 𝓛 (‵ (S.row.own_val x (S.val x ∷ [])) ∷ Γ) G Γ G
own {𝓤 = 𝓤} {𝓛 = 𝓛} t S x is = owned t S.row (Is S.row) (S.makes 𝓛) x (S.val x ∷ []) is

module _ {M : Type 1} {𝓤 : Ura M} {𝓛 : Logic 𝓤} {K : Type 0} {Γ : List (Item 𝓤)} where
  open 𝓛 use {H}

  answered : K → (S : Value) (x : S.row.Denot) (w : Val) (F : Val → Goal 𝓤 H) → (Is S.row x (S.val x ∷ []) → Seq K 𝓛 Γ (F (S.val x))) → Seq K 𝓛 (‵ (S.row.own_val x (w ∷ [])) ∷ Γ) (F w)
  answered t S x w F k = facts t S.row (Is S.row) (shows 𝓛 S.row) x (w ∷ []) (λ is. let tells = S.tells x _ is in regoal t F (ap only tells) refl $ k (subst (Is S.row x) tells is))

  pub value_lands : {C : Calls 𝓤 H} {Λ : Loops 𝓤 H} {E : Env 𝓤 H} {d : Place} {rest : Body} {q : Post 𝓤 H} → K → (S : Value) (x : S.row.Denot) (w : Val) → (Is S.row x (S.val x ∷ []) → Seq K 𝓛 Γ (lands C Λ E d (S.val x) rest q)) → Seq K 𝓛 (‵ (S.row.own_val x (w ∷ [])) ∷ Γ) (lands C Λ E d w rest q)
  value_lands {C = C} {Λ = Λ} {E = E} {d = d} {rest = rest} {q = q} t S x w k = answered t S x w (λ (u : Val). lands C Λ E d u rest q) k

  pub value_settles : {E : Env 𝓤 H} {d : Place} {q : Post 𝓤 H} → K → (S : Value) (x : S.row.Denot) (w : Val) → (Is S.row x (S.val x ∷ []) → Seq K 𝓛 Γ (settles E d (S.val x) q)) → Seq K 𝓛 (‵ (S.row.own_val x (w ∷ [])) ∷ Γ) (settles E d w q)
  value_settles {E = E} {d = d} {q = q} t S x w k = answered t S x w (λ (u : Val). settles E d u q) k

-- a type's machine values
pub record Known (R : RattleType) : Type 2 where
  pub spell : R.Denot → List Val
  pub tell : Tells R (Is R) spell
  pub lawful : {M : Type 1} {𝓤 : Ura M} (𝓛 : Logic 𝓤) → Lawful 𝓛 R

abbrev pub number : (w : Width) → Known (UInt w)
number w = record { spell = uint_vals w; tell = uint_Tells w; lawful = λ 𝓛. uint_Lawful 𝓛 w }

abbrev pub reads : (ℓ : Lifetime) (κ : Lft) (R : RattleType) → Known (ShrSlice ℓ κ R)
reads ℓ κ R = record { spell = shr_slice_vals; tell = shr_slice_Tells ℓ κ R; lawful = λ 𝓛. shr_slice_Lawful 𝓛 ℓ κ R }

abbrev pub writes : (ℓ : Lifetime) (κ : Lft) (R : RattleType) → Known (MutSlice ℓ κ R)
writes ℓ κ R = record { spell = mut_slice_vals; tell = mut_slice_Tells ℓ κ R; lawful = λ 𝓛. mut_slice_Lawful 𝓛 ℓ κ R }

abbrev pub struct : (D : SD.Declared) (L : LL.Laws D) → Known (SD.row D)
struct D L = record { spell = LL.vals D L; tell = LL.tells D L; lawful = LL.lawful D L }

abbrev pub Knowns : List RattleType → Type 2
Knowns [] = Unit {2}
Knowns (R ∷ Rs) = Known R × Knowns Rs

abbrev pub spells : (Rs : List RattleType) → Knowns Rs → Spells Rs
spells [] ks = tt
spells (R ∷ Rs) ks = (ks.0.spell, spells Rs ks.1)

pub tells : (Rs : List RattleType) (ks : Knowns Rs) → Tellss Rs (Ises Rs) (spells Rs ks)
tells [] ks = tt
tells (R ∷ Rs) ks = (ks.0.tell, tells Rs ks.1)

module _ {n : ℕ} where
  pub record Passed (s : Slot n) (k : Kept) : Type 3 where
    pub stay : Stay s k
    pub goes : {M : Type 1} {𝓤 : Ura M} (𝓛 : Logic 𝓤) → Goes 𝓛 n s k stay
    pub known : (κs : Lfts n) → Known (s.row κs)

  abbrev pub by_value : (S : Value) → Passed (plain (λ _. S.row)) yes
  by_value S = record { stay = stay_none (λ _. S.row) yes; goes = λ 𝓛. Goes-none 𝓛 n (λ _. S.row) yes (λ _. S.silent); known = λ _. record { spell = λ x. S.val x ∷ []; tell = S.tells; lawful = S.lawful } }

  module _ (R : RattleType) (j : ℕ) (ok : AllWithin n (j ∷ [])) where
    abbrev slot : Slot n
    slot = plain (λ _. R)

    abbrev pub lent_slice : Passed (shr_slice_of (j ∷ []) ok slot) yes
    lent_slice = record { stay = stay_none_slice (j ∷ []) ok slot yes; goes = λ 𝓛. Goes-none_slice 𝓛 n (j ∷ []) ok slot yes; known = λ κs. reads (name_of (j ∷ [])) (meet_at n (j ∷ []) ok κs) R }

    -- a `&mut` slice that is still owned at exit, and one that was given up to a callee
    abbrev pub kept_slice : Passed (mut_slice_of (j ∷ []) ok slot) yes
    kept_slice = record { stay = stay_slice (j ∷ []) ok slot; goes = λ 𝓛. Goes-slice 𝓛 n j ok slot; known = λ κs. writes (name_of (j ∷ [])) (meet_at n (j ∷ []) ok κs) R }

    abbrev pub given_slice : Passed (mut_slice_of (j ∷ []) ok slot) yes
    given_slice = record { stay = gave_slice (j ∷ []) ok slot; goes = λ 𝓛. Goes-gave_slice 𝓛 n j ok slot; known = λ κs. writes (name_of (j ∷ [])) (meet_at n (j ∷ []) ok κs) R }

  abbrev pub AllPassed : (ss : List (Slot n)) → Kepts ss → Type 3
  AllPassed [] ks = Unit {3}
  AllPassed (s ∷ ss) ks = Passed s ks.0 × AllPassed ss ks.1

  abbrev pub stays : (ss : List (Slot n)) (ks : Kepts ss) → AllPassed ss ks → Stays ss ks
  stays [] ks ps = tt
  stays (s ∷ ss) ks ps = (ps.0.stay, stays ss ks.1 ps.1)

  all_go : (ss : List (Slot n)) (ks : Kepts ss) (ps : AllPassed ss ks) {M : Type 1} {𝓤 : Ura M} (𝓛 : Logic 𝓤) → AllGo 𝓛 n ss ks (stays ss ks ps)
  all_go [] ks ps 𝓛 = tt
  all_go (s ∷ ss) ks ps 𝓛 = (ps.0.goes 𝓛, all_go ss ks.1 ps.1 𝓛)

  abbrev knowns : (ss : List (Slot n)) (ks : Kepts ss) → AllPassed ss ks → (κs : Lfts n) → Knowns (types_at ss κs)
  knowns [] ks ps κs = tt
  knowns (s ∷ ss) ks ps κs = (ps.0.known κs, knowns ss ks.1 ps.1 κs)

module _ (T : Ended) (ps : AllPassed T.signature.params T.kept) where
  abbrev pub passed_vals : (κs : Lfts T.signature.lifetimes) → Args T.signature κs → Vals T.signature κs
  passed_vals κs a = valss (types_at T.signature.params κs) (spells (types_at T.signature.params κs) (knowns T.signature.params T.kept ps κs)) a

  module _ {M : Type 1} {𝓤 : Ura M} (𝓛 : Logic 𝓤) (c : Clauses 𝓤 T) where
    -- where a symbolic execution ends
    abbrev pub Walked : Contract 𝓤
    Walked = walk_of 𝓛 T (stays T.signature.params T.kept ps) c

  module _ {M : Type 1} {𝓤 : Ura M} (𝓛 : Logic 𝓤) (𝓜 : Model 𝓤 𝓛.H) (𝓡 : Running 𝓤 𝓛.H 𝓜) (c : Clauses 𝓤 T) (names : Names) (f : Name) (e : Fn) where
    open 𝓛 use {H}

    abbrev run : Fun 𝓤
    run = WpFn 𝓤 H (tables 𝓤 H 𝓜 𝓡 names).C (tables 𝓤 H 𝓜 𝓡 names).Λ e

    pub walk_runs : Closed 𝓤 H (tables 𝓤 H 𝓜 𝓡 names).C (tables 𝓤 H 𝓜 𝓡 names).Λ f e
        → ((κs : Lfts T.signature.lifetimes) (qs : Shares T.signature.lifetimes) (bounds : AllOutlive T.signature.lifetimes T.signature.outlives κs) (a : Args T.signature κs) (g : (c κs a).ghost)
        → Are (types_at T.signature.params κs) (Ises (types_at T.signature.params κs)) a (passed_vals κs a)
        → ent 𝓤 (sep 𝓤 (on_entry 𝓛 T.signature κs qs a (passed_vals κs a)) ((c κs a).requires g)) (run (flat (types_at T.signature.params κs) (passed_vals κs a)) ((Walked 𝓛 c).post ((κs, qs, bounds, a, passed_vals κs a), g))))
        → Triple 𝓤 (𝓡.run (names f)) (Callee 𝓛 T c)
    unfolding tables_of
    walk_runs closed walk =
        entered 𝓤 H (Callee 𝓛 T c) (tables 𝓤 H 𝓜 𝓡 names).C (tables 𝓤 H 𝓜 𝓡 names).Λ f e closed
        (walk_Meets 𝓛 T (stays T.signature.params T.kept ps) (all_go T.signature.params T.kept ps 𝓛) c run (WpFn-mono 𝓤 H 𝓛.laws (tables_of 𝓤 H 𝓜 (tables 𝓤 H 𝓜 𝓡 names)) e)
        (walked 𝓛 T (stays T.signature.params T.kept ps) c run (λ κs. spells (types_at T.signature.params κs) (knowns T.signature.params T.kept ps κs)) (λ κs. tells (types_at T.signature.params κs) (knowns T.signature.params T.kept ps κs)) walk))
