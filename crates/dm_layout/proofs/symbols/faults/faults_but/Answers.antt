use Rattle.dm_layout.proofs.Names.{◌^◌, ◌≡◌, ℕ, ◌+◌, ◌*◌, ◌<◌, ◌≤◌, ap, ◌∙◌, arith, mul-le-mul_right, mod-mul-add}
use Rattle.dm_layout.proofs.Names.{SizeEntry, sure_faults_in}
use Rattle.dm_layout.proofs.symbols.Sizes.{region_within}
use Rattle.dm_layout.proofs.symbols.SureCells.{faults_joined}
use Rattle.dm_layout.proofs.symbols.TableEntries.{SizeFacts, size_facts}
use Rattle.dm_layout.proofs.symbols.faults.faults_but.Goals as goal
use Rattle.dm_layout.proofs.symbols.faults.faults_but.Goals.{After-regions_down-region-end}

-- What is known of the size, and that the period and the number of rows of regions are those of the size.
facts : (g : _) (c : After-regions_down-region-end g) → SizeFacts c.args.symbol.now.size
    × (c.region_rows-period.result + 2 ≡ c.args.symbol.now.size.region_rows + 2)
    × (c.regions_down-region-end.result ≡ c.args.symbol.now.size.regions_down)
facts g c = (
  size_facts c.args.symbol.now.size c.size-size.ensures.modules.size,
  cc (c.region_rows-period.ensures.value),
  cc (c.regions_down-region-end.ensures.value),
)

pub region_faults-faults-requires : goal.region_faults-faults-requires
region_faults-faults-requires g c =
    let s : SizeEntry = c.args.symbol.now.size in
    let (_, period, down) = facts g (goal.at.region_faults-faults-requires g c).After-regions_down-region-end in
    let region : ℕ = c.loop-region.region in
    let within = region_within s region c.size-size.ensures.modules.size (omega (arith, c.loop-region-test.true)) in
    let times = ap (λ (i : ℕ). region * i) period in
    let first : region * (c.region_rows-period.result + 2) ≡ region * (s.region_rows + 2) + 0 = omega (arith, times) in
    let next : (region + 1) * (s.region_rows + 2) ≡ region * (s.region_rows + 2) + (s.region_rows + 2) = omega arith in
    record {
      size = c.new-borders.ensures ∙ c.size-size.ensures.value;
      doubt = c.requires;
      first = rw first (mod-mul-add region (s.region_rows + 2) 0 (omega arith));
      fits = omega (arith, within, times, next);
    }

-- As many faults as rows of regions have modules fit in sixteen bits.
faults_fit : (p n region faults more : ℕ) → region < n → n * p ≤ 144 → faults ≤ region * p * 144 → more ≤ p * 144 →
    faults + more < 2 ^ 16
faults_fit p n region faults more l all f m =
    let h : (region + 1) * p ≤ n * p = mul-le-mul_right p (omega (arith, l)) in
    let e : (region + 1) * p ≡ region * p + p = omega arith in
    omega (arith, h, e, f, m, all)

pub overflow_add-faults : goal.overflow_add-faults
overflow_add-faults g c =
    let s : SizeEntry = c.args.symbol.now.size in
    let (known, _, down) = facts g (goal.at.overflow_add-faults g c).After-regions_down-region-end in
    record {
      fits = faults_fit (s.region_rows + 2) s.regions_down c.loop-region.region _ _
          (omega (arith, c.loop-region-test.true)) (omega (arith, known.rows, known.rows_fit))
          c.loop-region.invariant.most c.region_faults-faults.ensures.most;
    }

pub loop-region-preserved : goal.loop-region-preserved
loop-region-preserved g c =
    let faults = sure_faults_in c.args.symbol.now (g.D.Doubt.doubtful c.args.doubt.now) in
    let region : ℕ = c.loop-region.region in
    let p : ℕ = c.args.symbol.now.size.region_rows + 2 in
    let (_, period, _) = facts g (goal.at.loop-region-preserved g c).After-regions_down-region-end in
    let joined = faults_joined c.args.symbol.now (g.D.Doubt.doubtful c.args.doubt.now) (region * p) p in
    let count : c.region_faults-faults.result ≡ faults (region * p) p =
    c.region_faults-faults.ensures.count ∙ ap (λ (i : ℕ). faults (region * i) p) period in
    let next : region * p + p ≡ (region + 1) * p = omega arith in
    let sum : c.loop-region.faults + c.region_faults-faults.result ≡ faults 0 (region * p + p) =
    omega (arith, count, c.loop-region.invariant.so_far, joined) in
    record {
      so_far = sum ∙ ap (faults 0) next;
      most = omega (arith, c.region_faults-faults.ensures.most, c.loop-region.invariant.most);
    }

pub returns : goal.returns
returns g c =
    let (known, _, down) = facts g (goal.at.returns g c).After-regions_down-region-end in
    let all : c.loop-region.region ≡ c.args.symbol.now.size.regions_down =
    omega (arith, c.loop-region-test.false, c.loop-region.auto.region-end) in
    rw (known.rows, ← all) c.loop-region.invariant.so_far
