use Rattle.fuse_kernel.proofs.TruncationLemmas.{product_fits, scaled_is, scaled_small}
use Rattle.fuse_kernel.proofs.truncation.scaled.Goals as goal

pub returns-clause-value : goal.returns-clause-value
returns-clause-value c = scaled_is c.args.e c.args.mu c.args.reciprocal c.requires.least c.requires.most c.requires.e c.requires.reciprocal

pub returns-clause-bound : goal.returns-clause-bound
returns-clause-bound c = scaled_small c.args.e c.args.mu c.args.reciprocal c.requires.least c.requires.most c.requires.e c.requires.reciprocal

pub overflow_mul-result : goal.overflow_mul-result
overflow_mul-result c = record { fits = product_fits c.args.e c.args.mu c.args.reciprocal c.requires.most c.requires.e c.requires.reciprocal }
