-- The view that a band is of.
use Rattle.depth_view.specs.Views.{View, view_of}
use Rattle.band_walk.specs.declared.band.Band.{Band}

abbrev pub view_of_band : Band → View
view_of_band b = view_of b.camera.now b.pose.now b.frame.now
